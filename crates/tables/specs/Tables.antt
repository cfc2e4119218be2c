-- One table of words with what a walk reads and never changes, part by part. Units and weeks count from 0, starts from 1.
-- Assumes nothing.
use Rattle.std.specs.Prelude.{ℕ, ◌+◌, ◌*◌, ◌≤◌, ◌<◌, ◌≡◌, Bool, List, ◌⊎◌, length, get_or, ltb}
use Rattle.sums.specs.Logic.{if}
use Rattle.sums.specs.Sum.{sum_to, transposed}
use Rattle.sums.specs.NumSet.{has}
use Rattle.model.specs.Problem.{Problem}
use Rattle.model.specs.Pairs.{apart}
use Rattle.overhaul.specs.Off.{off_weeks}

-- ---- where the parts begin

-- after 52 weeks of 16 prices, the partners of 16 units
abbrev pub PARTNERS : ℕ
PARTNERS = 832

-- their OFF costs
abbrev pub OFFS : ℕ
OFFS = 848

-- 64 places for each: the least cost of its overhaul, and how much more from each start
abbrev pub START_COSTS : ℕ
START_COSTS = 864

-- what 52 weeks are worth with nobody out
abbrev pub ROOT_VALUES : ℕ
ROOT_VALUES = 1888

-- all OFF costs and all prices
abbrev pub TOTAL : ℕ
TOTAL = 1940

-- whether 52 weeks are hard
abbrev pub HARD_WEEKS : ℕ
HARD_WEEKS = 1941

-- the words of the whole
abbrev pub TABLES : ℕ
TABLES = 1993

-- ---- what they hold

-- the price at a place, 0 behind the last
unfoldable pub price_at : List ℕ → ℕ → ℕ
price_at xs k = if (ltb k PARTNERS) (get_or xs k 0) 0

-- the price of unit i in week t
unfoldable pub price_in : List ℕ → (t i : ℕ) → ℕ
unfolding price_at
price_in xs t i = price_at xs (t * 16 + i)

-- the units that form an excluded pair with unit i
unfoldable pub partners_in : List ℕ → ℕ → ℕ
partners_in xs i = get_or xs (PARTNERS + i) 0

-- what unit i costs OFF over the season
unfoldable pub off_in : List ℕ → ℕ → ℕ
off_in xs i = get_or xs (OFFS + i) 0

-- what the overhaul of unit i costs at least, its prices included
unfoldable pub least_in : List ℕ → ℕ → ℕ
least_in xs i = get_or xs (START_COSTS + i * 64) 0

-- and how much more from start s
unfoldable pub excess_in : List ℕ → (i s : ℕ) → ℕ
excess_in xs i s = get_or xs (START_COSTS + i * 64 + s) 0

-- what week t is worth with nobody out
unfoldable pub root_in : List ℕ → ℕ → ℕ
root_in xs t = get_or xs (ROOT_VALUES + t) 0

-- all OFF costs and all prices
unfoldable pub total_in : List ℕ → ℕ
total_in xs = get_or xs TOTAL 0

-- whether week t has too many sets of units out to be tried one by one; advice, of which nothing is asked
unfoldable pub hard_in : List ℕ → ℕ → Bool
hard_in xs t = ltb 0 (get_or xs (HARD_WEEKS + t) 0)

-- what unit i costs OFF over the season, and its prices in the first n weeks
unfoldable pub unit_total : List ℕ → (n i : ℕ) → ℕ
unfolding price_in off_in
unit_total xs n i = off_in xs i + sum_to n (transposed (price_in xs) i)

-- ---- ranges and partners

-- the highest price
abbrev pub MOST_PRICE : ℕ
MOST_PRICE = 4194304

-- what the prices of a week come to at most: those of 16 units
abbrev pub MOST_WEEK_PRICES : ℕ
MOST_WEEK_PRICES = 67108864

-- what a unit costs OFF over the season at most: 52 weeks at 250,000
abbrev pub MOST_OFF : ℕ
MOST_OFF = 13000000

-- how many amounts there are that a word holds
abbrev pub AMOUNTS : ℕ
AMOUNTS = 4294967296

-- no price is higher
pub record Prices (xs : List ℕ) : Type 0 where
  pub small : (k : ℕ) → k < PARTNERS → get_or xs k 0 ≤ MOST_PRICE

-- these are the units that form an excluded pair with unit j
pub record PartnersOf (p : Problem) (j set : ℕ) : Type 0 where
  pub sets : (i : ℕ) → has set i ≡ apart p j i

-- so it is for the first n units
pub record Partners (p : Problem) (n : ℕ) (xs : List ℕ) : Type 0 where
  pub each : (i : ℕ) → i < n → PartnersOf p i (partners_in xs i)

-- the first n units' OFF costs
pub record Offs (p : Problem) (n : ℕ) (xs : List ℕ) : Type 0 where
  pub each : (i : ℕ) → i < n → off_in xs i ≡ off_weeks p i
  pub small : (i : ℕ) → i < n → off_in xs i ≤ MOST_OFF

-- prices in their range, and the partners and OFF costs of all units
pub record Priced (p : Problem) (xs : List ℕ) : Type 0 where
  pub long : length xs ≡ TABLES
  pub prices : Prices xs
  pub partners : Partners p p.units xs
  pub offs : Offs p p.units xs

-- ys has the first n words of xs
pub record Begins (n : ℕ) (xs ys : List ℕ) : Type 0 where
  pub long : length ys ≡ TABLES
  pub same : (k : ℕ) → k < n → get_or ys k 0 ≡ get_or xs k 0

-- the table of a file before prices are found, with the partners and OFF costs of the first n units
pub record First (p : Problem) (n : ℕ) (xs : List ℕ) : Type 0 where
  pub long : length xs ≡ TABLES
  pub partners : Partners p n xs
  pub offs : Offs p n xs
  pub zeros : (k : ℕ) → (k < PARTNERS) ⊎ (START_COSTS ≤ k) → get_or xs k 0 ≡ 0
