-- Places that are each ON, OFF or OUT: what a choice of states gives and costs, which choices count, and what every one of them costs at least.
-- In the field this is a knapsack cover with a third state that a limited number may take.
-- Assumes nothing.
use Rattle.std.specs.Prelude.{ℕ, zero, suc, ◌+◌, ◌-◌, ◌*◌, ◌≤◌, ◌<◌, ◌≡◌, min, max, Bool, true, false, not, ◌&&◌, ◌||◌, ltb, List, slice_index_or, Option, Some, None}
use Rattle.sums.specs.Logic.{if}
use Rattle.sums.specs.Sum.{sum_to}
use Rattle.sums.specs.NumSet.{NumSet, has}
use Rattle.states.specs.declared.PlaceState.{PlaceState}
use Rattle.states.specs.declared.PlaceState.TheVariants.{On, Off, Out}
use Rattle.states.specs.declared.StateNode.{StateNode}
use Rattle.states.specs.declared.StateFound.{StateFound}
use Rattle.states.specs.declared.Looked.{Looked}
use Rattle.states.specs.declared.Looked.TheVariants.{Done, Open}

-- what each place gives where it is ON, what its three states cost, the places that are never OUT, and with which others each may not be
pub record Places : Type 0 where
  pub cap : ℕ → ℕ
  pub on : ℕ → ℕ
  pub off : ℕ → ℕ
  pub out : ℕ → ℕ
  pub shut : NumSet
  pub clash : ℕ → NumSet

-- a state for each place
abbrev pub PlaceStates : Type 0
PlaceStates = ℕ → PlaceState

-- what place i gives in a state
unfoldable pub given : Places → ℕ → PlaceState → ℕ
given p i On = p.cap i
given p i Off = 0
given p i Out = 0

-- what it costs
unfoldable pub paid : Places → ℕ → PlaceState → ℕ
paid p i On = p.on i
paid p i Off = p.off i
paid p i Out = p.out i

-- whether it is out, as a number
unfoldable pub gone : PlaceState → ℕ
gone On = 0
gone Off = 0
gone Out = 1

-- the terms of sums over places
unfoldable pub gives : Places → PlaceStates → ℕ → ℕ
gives p s i = given p i (s i)

unfoldable pub pays : Places → PlaceStates → ℕ → ℕ
pays p s i = paid p i (s i)

unfoldable pub goes : PlaceStates → ℕ → ℕ
goes s i = gone (s i)

-- s counts for the places below k: they give what is needed, at most so many are OUT, none of them shut or barred, and no two of them clash
pub record StateChoice (p : Places) (k need crews : ℕ) (bar : NumSet) (s : PlaceStates) : Type 0 where
  pub enough : need ≤ sum_to k (gives p s)
  pub few : sum_to k (goes s) ≤ crews
  pub unshut : (i : ℕ) → i < k → s i ≡ Out → p.shut i ≡ false
  pub free : (i : ℕ) → i < k → s i ≡ Out → bar i ≡ false
  pub apart : (i j : ℕ) → i < k → j < i → s i ≡ Out → s j ≡ Out → p.clash i j ≡ false

-- v is at most what any such choice costs, on top of the score
pub record ChoiceFloor (p : Places) (k need crews : ℕ) (bar : NumSet) (score v : ℕ) : Type 0 where
  pub below : (s : PlaceStates) → StateChoice p k need crews bar s → v ≤ score + sum_to k (pays p s)

-- what is barred once place i is OUT as well
unfoldable pub barred : Places → ℕ → NumSet → NumSet
barred p i bar j = bar j || p.clash i j

-- the choices with place i in a state have been tried, or need not be: ON is as good as OFF where it costs no more, and OFF as OUT
abbrev pub StateTried : Places → (i need crews : ℕ) → NumSet → (score v : ℕ) → PlaceState → Type 0
StateTried p i need crews bar score v On = ChoiceFloor p i (need - p.cap i) crews bar (score + p.on i) v
StateTried p i need crews bar score v Off = p.off i < p.on i → ChoiceFloor p i need crews bar (score + p.off i) v
StateTried p i need crews bar score v Out =
    p.out i < p.off i → 0 < crews → bar i ≡ false → ChoiceFloor p i need (crews - 1) (barred p i bar) (score + p.out i) v

pub record StateHeld (p : Places) (i need crews : ℕ) (bar : NumSet) (score v : ℕ) (st : PlaceState) : Type 0 where
  pub tried : StateTried p i need crews bar score v st

-- an order has every state
pub record EachState (o : List PlaceState) : Type 0 where
  pub one : (st : PlaceState) → (n : ℕ) × (n < 3) × (slice_index_or o n On ≡ st)

-- ---- at a rate for what is needed and a price for each that is OUT

-- what a place costs at least where it is not ON, with the price of being OUT
unfoldable pub idle : Places → (price : ℕ) → ℕ → ℕ
idle p price i = if (p.shut i) (p.off i) (min (p.off i) (price + p.out i))

-- what ON yields above its cost, at the rate
unfoldable pub gain : Places → (rate price : ℕ) → ℕ → ℕ
gain p rate price i = (rate * p.cap i + idle p price i) - p.on i

-- the same places, each of which gives 1: where they are counted and not weighed
abbrev pub counted : Places → Places
counted p = record { cap = λ i. 1; on = p.on; off = p.off; out = p.out; shut = p.shut; clash = p.clash }

-- what any j of the places below k give at most
unfoldable pub top_of : (ℕ → ℕ) → (k j : ℕ) → ℕ
top_of cap zero j = 0
top_of cap (suc k) zero = 0
top_of cap (suc k) (suc j) = max (top_of cap k (suc j)) (top_of cap k j + cap k)

-- what a place costs at least
unfoldable pub flat : Places → (price : ℕ) → ℕ → ℕ
flat p price i = min (idle p price i) (p.on i)

-- nothing new comes of place i in a state
pub record ChildPassed (p : Places) (i : ℕ) (y : StateNode) (st : PlaceState) : Type 0 where
  pub held : (v : ℕ) → StateHeld p i y.need y.crews (has y.bar) y.score v st

-- n is a node whose lower bounds are those of the choices with place i in that state
pub record ChildMade (p : Places) (i : ℕ) (y : StateNode) (st : PlaceState) (n : StateNode) : Type 0 where
  pub crews : n.crews ≤ y.crews
  pub held : (v : ℕ) → ChoiceFloor p i n.need n.crews (has n.bar) n.score v → StateHeld p i y.need y.crews (has y.bar) y.score v st

-- what comes of place i in a state
abbrev pub ChildComes : Places → ℕ → StateNode → PlaceState → Option StateNode → Type 0
ChildComes p i y st None = ChildPassed p i y st
ChildComes p i y st (Some n) = ChildMade p i y st n

-- what node n leaves and costs
pub record NodeIs (need crews score : ℕ) (bar : NumSet) (n : StateNode) : Type 0 where
  pub need_is : n.need ≡ need
  pub crews_is : n.crews ≡ crews
  pub score_is : n.score ≡ score
  pub bar_is : (j : ℕ) → has n.bar j ≡ bar j

-- that node exactly where it is worth a look
abbrev pub ChildIs : Bool → (need crews score : ℕ) → NumSet → Option StateNode → Type 0
ChildIs worth need crews score bar None = worth ≡ false
ChildIs worth need crews score bar (Some n) = (worth ≡ true) × NodeIs need crews score bar n

-- whether a place is tried OUT
abbrev pub may_go : (off out crews : ℕ) → NumSet → ℕ → Bool
may_go off out crews bar i = ltb out off && ltb 0 crews && not (bar i)

-- a node is done with: the best so far, or less, is at most what every choice from it costs
pub record NodeDone (p : Places) (k : ℕ) (y : StateNode) (low found : StateFound) : Type 0 where
  pub ended : ChoiceFloor p k y.need y.crews (has y.bar) y.score found.best
  pub less : found.best ≤ low.best

-- there is a place to decide
pub record NodeOpen (k : ℕ) (y : StateNode) (low found : StateFound) : Type 0 where
  pub less : found.best ≤ low.best
  pub more : 0 < k
  pub score : y.score ≤ low.best

-- what is seen of a node before its highest place is decided
abbrev pub NodeSeen : Places → ℕ → StateNode → StateFound → Looked → Type 0
NodeSeen p k y low (Done found) = NodeDone p k y low found
NodeSeen p k y low (Open found) = NodeOpen k y low found
