-- What the rounds keep to, so that no number grows too large: their table of prices, their pushes, and how far they have come.
-- Assumes nothing.
use Rattle.std.specs.Prelude.{ℕ, ◌≤◌, ◌<◌, ◌≡◌, List, ◌⊎◌, length, get_or}
use Rattle.instance.specs.declared.file.File.{File}
use Rattle.instance.specs.File.{problem}
use Rattle.tables.specs.Tables.{PARTNERS, Prices, Priced}
use Rattle.prices.specs.declared.step.Progress.{Progress}

-- a bound is less than this: 2 ^ 40
abbrev pub MOST_BOUND : ℕ
MOST_BOUND = 1099511627776

-- a place for each week and unit
abbrev pub PLACES : ℕ
PLACES = 832

-- a push of none
abbrev pub LEVEL : ℕ
LEVEL = 1024

-- what a round adds to a push, or takes from it
abbrev pub ROUND_PUSH : ℕ
ROUND_PUSH = 256

-- the highest push
abbrev pub MOST_PUSH : ℕ
MOST_PUSH = 2048

-- how far it lies from none, squared
abbrev pub MOST_SQUARE : ℕ
MOST_SQUARE = 1048576

-- the sum of such squares over all places; one price pushed once counts 1
abbrev pub MOST_NORM : ℕ
MOST_NORM = 13312

-- how far above the bound at hand a step aims at most
abbrev pub MOST_AIM : ℕ
MOST_AIM = 2199023255552

-- the first reach of steps, in 256ths
abbrev pub REACH : ℕ
REACH = 256

-- the longest step
abbrev pub MOST_STEP : ℕ
MOST_STEP = 562949953421312

-- a step is in 256ths, and a push of one round is 256
abbrev pub STEP_SCALE : ℕ
STEP_SCALE = 65536

-- what a step changes a price by at most
abbrev pub MOST_CHANGE : ℕ
MOST_CHANGE = 8796093022208

-- so many rounds in a row without a gain make steps shorter by half
abbrev pub PATIENCE : ℕ
PATIENCE = 6

-- the most rounds of a file
abbrev pub MOST_ROUNDS : ℕ
MOST_ROUNDS = 256

-- what the overhaul of a unit costs at most from its first permitted start, its prices included, with OFF in all other weeks
abbrev pub MOST_FIRST_COST : ℕ
MOST_FIRST_COST = 8589934592

-- what it costs at most from any start: 2 ^ 34
abbrev pub MOST_UNIT_COST : ℕ
MOST_UNIT_COST = 17179869184

-- a file, and a table with its partners and OFF costs, and prices in their range
pub record PricedFile (file : File) (xs : List ℕ) : Type 0 where
  pub priced : Priced (problem file) xs

-- a table whose prices have moved within their range, and nothing else
pub record Moved (xs ys : List ℕ) : Type 0 where
  pub long : length ys ≡ length xs
  pub prices : Prices ys
  pub same : (k : ℕ) → PARTNERS ≤ k → get_or ys k 0 ≡ get_or xs k 0

-- there are bounds, that of the prices at hand is not above the best, and steps reach no further than at first
pub record ProgressInRange (s : Progress) : Type 0 where
  pub best : s.best < MOST_BOUND
  pub at : s.at ≤ s.best
  pub reach : s.reach ≤ REACH
  pub idle : s.idle < PATIENCE

-- the third table is one of the first two
pub record OneOf (xs ys zs : List ℕ) : Type 0 where
  pub either : (zs ≡ xs) ⊎ (zs ≡ ys)
