-- The tables of numbers that the choice of a cover reads: what units give and weigh, and the sums over the free units that cut it.
-- Assumes nothing.
use Rattle.std.specs.Prelude.{ℕ, ◌+◌, ◌-◌, ◌*◌, ◌≤◌, ◌≡◌, not, ◌&&◌, List, length}
use Rattle.sums.specs.Sum.{sum_to}
use Rattle.sums.specs.Table.{entry, AtMost}
use Rattle.sums.specs.NumSet.{NumSet, only_in, complement, has}

-- capacities, in kilograms, as a file may have them
abbrev pub Caps : List ℕ → Type 0
Caps xs = AtMost 1000000 xs

-- 2 ^ 34: what a unit may weigh, which keeps every sum and product in a word of 64 bits
abbrev pub MOST_WEIGHT : ℕ
MOST_WEIGHT = 17179869184

-- at such a rate for a kilogram a unit of 1,000,000 yields no more, and 16 of them
abbrev pub MOST_SURPLUS : ℕ
MOST_SURPLUS = 17179869184000000

abbrev pub MOST_GAIN : ℕ
MOST_GAIN = 274877906944000000

-- weights as the choice can take them
abbrev pub Weights : List ℕ → Type 0
Weights xs = AtMost MOST_WEIGHT xs

-- what unit i yields above its weight, at a rate for a kilogram (in the field, a Lagrange multiplier of the need)
unfoldable pub surplus : ℕ → (gives weighs : ℕ → ℕ) → ℕ → ℕ
surplus rate gives weighs i = rate * gives i - weighs i

-- the units of a guess that are not out
unfoldable pub spared : (out guess : ℕ) → NumSet
spared out guess i = has guess i && not (has out i)

-- ---- the table that cuts the choice

-- behind what the free units below k give together, for k up to 16, begins what they yield together above their weights
abbrev pub GAINS : ℕ
GAINS = 17

-- and behind that stands the rate
abbrev pub RATE : ℕ
RATE = 34

-- the words of the whole
abbrev pub CUTS : ℕ
CUTS = 35

-- it has the rate, and the sums over the free units below each number up to n
pub record Cuts (free : NumSet) (gives yields : ℕ → ℕ) (rate n : ℕ) (cuts : List ℕ) : Type 0 where
  pub long : length cuts ≡ CUTS
  pub rate_is : entry cuts RATE ≡ rate
  pub rooms : (k : ℕ) → k ≤ n → entry cuts k ≡ sum_to k (only_in free gives)
  pub gains : (k : ℕ) → k ≤ n → entry cuts (GAINS + k) ≡ sum_to k (only_in free yields)

-- all that the walk is lent
pub record CoverTables (out : ℕ) (caps weights cuts : List ℕ) : Type 0 where
  pub caps_fit : Caps caps
  pub weights_fit : Weights weights
  pub rate_most : entry cuts RATE ≤ MOST_WEIGHT
  pub cut : Cuts (complement (has out)) (entry caps) (surplus (entry cuts RATE) (entry caps) (entry weights)) (entry cuts RATE) 16 cuts
