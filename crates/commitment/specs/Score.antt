-- A run's score: what it costs with all other units OFF, and its number, in one figure, so that of two runs the one to be preferred has the
-- smaller score. Units that cost less running than OFF are in the cheapest run whether they are needed or not; of the others a cover of what is
-- still needed is sought, and the least score is that of the former with the weights of the latter.
-- Assumes nothing.
use Rattle.std.specs.Prelude.{ℕ, ◌+◌, ◌*◌, ◌-◌, ◌/◌, ◌%◌, ◌^◌, ◌≤◌, ◌<◌, ◌≡◌, Bool, not, ◌&&◌, ◌||◌, List, ltb, eqb}
use Rattle.sums.specs.NumSet.{NumSet, complement, power, has}
use Rattle.sums.specs.Table.{entry}
use Rattle.model.specs.Problem.{Problem}
use Rattle.model.specs.Commitment.{full_cost, Serves}
use Rattle.model.specs.Rules.{output}
use Rattle.cover.specs.Cover.{UNCOVERED, LeastCover}

-- ---- scores

-- what a euro counts in a score: more than any run's number
abbrev pub SCALE : ℕ
SCALE = 65536

-- a cost and a run's number in one figure, and both told from it
abbrev pub scored : (cost number : ℕ) → ℕ
scored cost number = cost * SCALE + number

abbrev pub cost_in : ℕ → ℕ
cost_in v = v / SCALE

abbrev pub number_in : ℕ → ℕ
number_in v = v % SCALE

-- the score of run r in week t
unfoldable pub score_of : Problem → ℕ → ℕ → ℕ
score_of p t r = scored (full_cost p t r) r

-- what unit i adds to the score of a run of week t where it need not run
unfoldable pub weight_of : Problem → ℕ → ℕ → ℕ
weight_of p t i = scored (p.running t i - p.off t i) (power i)

-- ---- units that run whether they are needed or not

-- unit i is not out and costs less running than OFF
unfoldable pub thrifty : Problem → ℕ → NumSet → NumSet
thrifty p t out i = not (out i) && ltb (p.running t i) (p.off t i)

-- unit j is unit i, and thrifty
unfoldable pub thrifty_at : Problem → ℕ → NumSet → (j i : ℕ) → Bool
unfolding thrifty
thrifty_at p t out j i = eqb j i && thrifty p t out j

-- run r has the thrifty units and no others
pub record ThriftyRun (p : Problem) (t : ℕ) (out : NumSet) (r : ℕ) : Type 0 where
  pub units : r < 2 ^ p.units
  pub has_them : (i : ℕ) → i < p.units → has r i ≡ thrifty p t out i

-- the units that are no choice: out, or thrifty
unfoldable pub decided : Problem → ℕ → NumSet → NumSet
unfolding thrifty
decided p t out i = out i || thrifty p t out i

-- ---- the least score

-- v is the least weight of a cover, by units that are neither out nor thrifty, of what the thrifty units leave of the demand
abbrev pub LeastWeight : Problem → (t : ℕ) → NumSet → ℕ → Type 0
LeastWeight p t out v = LeastCover (complement (decided p t out)) (p.capacity t) (weight_of p t) p.units (p.demand t - output p t (thrifty p t out)) v

-- a run with this score
pub record Scored (p : Problem) (t : ℕ) (out : NumSet) (v : ℕ) : Type 0 where
  pub run : ℕ
  pub serves : Serves p t out run
  pub score : v ≡ score_of p t run

-- v is the least score of a run of week t with these units out, or UNCOVERED for none
pub record LeastScore (p : Problem) (t : ℕ) (out : NumSet) (v : ℕ) : Type 0 where
  pub most : v ≤ UNCOVERED
  pub reached : v < UNCOVERED → Scored p t out v
  pub least : (q : ℕ) → Serves p t out q → v ≤ score_of p t q

-- ---- tables

-- the first n places of a table are those of f
pub record Column (n : ℕ) (f : ℕ → ℕ) (xs : List ℕ) : Type 0 where
  pub holds : (i : ℕ) → i < n → entry xs i ≡ f i
