-- The two tables that the search reads: what each place gives and costs, and the sums over the places below each place that bounds are made of, with what
-- any number of them give.
-- Assumes nothing.
use Rattle.std.specs.Prelude.{ℕ, ◌+◌, ◌-◌, ◌≤◌, ◌<◌, ◌≡◌, List, [], length, get_or, max}
use Rattle.sums.specs.Sum.{sum_to}
use Rattle.sums.specs.NumSet.{has}
use Rattle.sums.specs.Table.{AtMost}
use Rattle.states.specs.Choices.{Places, counted, idle, gain, flat, top_of}
use Rattle.states.specs.declared.Advice.{Advice}
use Rattle.states.specs.declared.Costs.{Costs}
use Rattle.states.specs.declared.Sums.{Sums}

-- ---- ranges

-- what a place gives at most
abbrev pub MOST_CAP : ℕ
MOST_CAP = 1000000

-- what a place costs at most in a state, and the highest rate and price: 2 ^ 35
abbrev pub MOST_COST : ℕ
MOST_COST = 34359738368

-- what 16 places cost at most: 2 ^ 39
abbrev pub MOST_COST_SUM : ℕ
MOST_COST_SUM = 549755813888

-- what ON yields above its cost at most, at the highest rate
abbrev pub MOST_GAIN : ℕ
MOST_GAIN = 34359772727738368

-- what 16 gains come to at most: 2 ^ 60
abbrev pub MOST_GAIN_SUM : ℕ
MOST_GAIN_SUM = 1152921504606846976

-- what 16 places give at most
abbrev pub MOST_NEED : ℕ
MOST_NEED = 16000000

-- more than any choice costs: 2 ^ 44
abbrev pub MOST_SCORE : ℕ
MOST_SCORE = 17592186044416

-- ---- the tables

-- the places of a table of costs
abbrev pub places_of : Costs → (shut : ℕ) → Places
places_of c shut = record {
  cap = λ i. get_or c.caps i 0;
  on = λ i. get_or c.ons i 0;
  off = λ i. get_or c.offs i 0;
  out = λ i. get_or c.outs i 0;
  shut = has shut;
  clash = λ i. has (get_or c.clashes i 0);
}

-- costs in their ranges
pub record CostsInRange (c : Costs) : Type 0 where
  pub caps : AtMost MOST_CAP c.caps
  pub ons : AtMost MOST_COST c.ons
  pub offs : AtMost MOST_COST c.offs
  pub outs : AtMost MOST_COST c.outs

-- what bounds are taken at, in its range
pub record AdviceInRange (a : Advice) : Type 0 where
  pub rate : a.rate ≤ MOST_COST
  pub price : a.price ≤ MOST_COST
  pub unit_rate : a.unit ≤ MOST_COST
  pub unit_price : a.fee ≤ MOST_COST

-- at each place up to n the sum of f over the places below it
pub record SumsTo (f : ℕ → ℕ) (n : ℕ) (xs : List ℕ) : Type 0 where
  pub long : length xs ≡ 17
  pub each : (k : ℕ) → k ≤ n → get_or xs k 0 ≡ sum_to k f

-- the sums as far as place n
pub record AllSumsTo (p : Places) (a : Advice) (n : ℕ) (s : Sums) : Type 0 where
  pub rooms : SumsTo p.cap n s.rooms
  pub idles : SumsTo (idle p a.price) n s.idles
  pub gains : SumsTo (gain p a.rate a.price) n s.gains
  pub flats : SumsTo (flat p a.price) n s.flats
  pub counted_idles : SumsTo (idle (counted p) a.fee) n s.counted_idles
  pub counted_gains : SumsTo (gain (counted p) a.unit a.fee) n s.counted_gains

-- at place j what any j of the places below k give at most
pub record TopRow (cap : ℕ → ℕ) (k : ℕ) (xs : List ℕ) : Type 0 where
  pub long : length xs ≡ 17
  pub each : (j : ℕ) → j ≤ 16 → get_or xs j 0 ≡ top_of cap k j

-- a row from the one before it, with a place that gives so much, as far as place n
pub record NextTops (before : List ℕ) (cap n : ℕ) (xs : List ℕ) : Type 0 where
  pub long : length xs ≡ 17
  pub none : get_or xs 0 0 ≡ 0
  pub some : (j : ℕ) → j < n → get_or xs (j + 1) 0 ≡ max (get_or before (j + 1) 0) (get_or before j 0 + cap)

-- the rows up to row n
pub record TopsTo (c : Costs) (n : ℕ) (tops : List (List ℕ)) : Type 0 where
  pub long : length tops ≡ 17
  pub each : (k : ℕ) → k ≤ n → TopRow (λ i. get_or c.caps i 0) k (get_or tops k [])

-- all that the search is lent
pub record SearchTables (c : Costs) (s : Sums) (a : Advice) : Type 0 where
  pub costs : CostsInRange c
  pub advice : AdviceInRange a
  pub sums : AllSumsTo (places_of c a.shut) a 16 s
  pub tops : TopsTo c 16 s.tops

-- fewer than r of the places give less than is needed, by a row of what any number of the first k of them give
pub record OnsShort (tops : List ℕ) (k need r : ℕ) : Type 0 where
  pub most : r ≤ k
  pub short : 0 < r → get_or tops (r - 1) 0 < need
