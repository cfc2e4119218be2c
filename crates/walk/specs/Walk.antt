-- The walk of one ask: what its state says of all schedules, before and after a unit is placed and a start is tried. Units count from 0, starts
-- from 1. The limit is exclusive: a schedule is wanted when it costs less, and a plan's cost is the limit of all that come after it.
-- Assumes nothing.
use Rattle.std.specs.Prelude.{ℕ, suc, ◌+◌, ◌-◌, ◌≤◌, ◌<◌, ◌≡◌, Bool, true, false, ◌||◌, List, ◌⊎◌, length, set, ltb, Option, Some, None, Result, Ok, Err}
use Rattle.sums.specs.NumSet.{has, without}
use Rattle.sums.specs.Table.{entry}
use Rattle.model.specs.Problem.{Problem}
use Rattle.model.specs.Domain.{permitted}
use Rattle.model.specs.Schedule.{Schedule, out_in, Sound, cost}
use Rattle.model.specs.Order.{Same, Lower, Earlier}
use Rattle.model.specs.Prefix.{tree_size, passed}
use Rattle.model.specs.Nogood.{MOST_LIMIT, Nogood}
use Rattle.instance.specs.declared.file.File.{File}
use Rattle.instance.specs.File.{problem}
use Rattle.blame.specs.Closed.{Closed, Settled}
use Rattle.blame.specs.Placed.{first_units, out_of, paid, plan_of}
use Rattle.nogood.specs.Noting.{KEPT_FREE}
use Rattle.nogood.specs.Stock.{Stock, Grown, DeadEnds}
use Rattle.bound.specs.Rows.{Rows}
use Rattle.tables.specs.Tables.{price_in}
use Rattle.relaxation.specs.Relaxed.{MemoTrue}
use Rattle.dual.specs.declared.Node.{Node}
use Rattle.dual.specs.Dual.{Dual}
use Rattle.dual.specs.Blame.{IsNext, Bounded}
use Rattle.bound.specs.Tests.{Blames, Stands, Judged, TestDue}
use Rattle.state.specs.declared.State.{State}
use Rattle.state.specs.declared.Walked.{Walked}
use Rattle.state.specs.declared.Walked.TheVariants.{Dead, Spent}
use Rattle.state.specs.declared.Step.{Step}
use Rattle.state.specs.State.{tried_once, dead_at, improved_by}
use Rattle.instance.specs.declared.Euro.{Euro}
use Rattle.walk.specs.declared.Visit.{Visit}

-- ---- the best so far

-- the starts with each week's cheapest run are a sound schedule at this cost and at or below the ceiling, and every earlier one costs more
pub record IsIncumbent (p : Problem) (ceiling : ℕ) (best : List ℕ) (limit : ℕ) : Type 0 where
  pub sound : Sound p (plan_of p (entry best))
  pub costs : cost p (plan_of p (entry best)) ≡ limit
  pub allowed : limit ≤ ceiling
  pub first : (q : Schedule) → Sound p q → Earlier p q (plan_of p (entry best)) → limit < cost p q

-- what a state says of the best so far under a ceiling
pub record Incumbent (p : Problem) (ceiling : ℕ) (st : State) : Type 0 where
  pub under : st.limit.0 ≤ ceiling + 1
  pub none : st.found ≡ false → st.limit.0 ≡ ceiling + 1
  pub plan : st.found ≡ true → IsIncumbent p ceiling st.best st.limit.0

-- ---- one state after another

-- the table w holds nogoods that are true, in as many words as are used
pub record TableTrue (p : Problem) (w : List ℕ) (used : ℕ) : Type 0 where
  pub nogoods : List Nogood
  pub stock : Stock p nogoods w used

-- a table w in which so many words are used has become w' with others: what it held stands there still, with dead ends alone behind it, and the
-- words used grow to those kept free at most
pub record Carried (p : Problem) (w : List ℕ) (used : ℕ) (w' : List ℕ) (used' : ℕ) : Type 0 where
  pub stock : (gs : List Nogood) → Stock p gs w used → Grown p DeadEnds gs w' used'
  pub room : (n : ℕ) → used ≤ n → length w - KEPT_FREE ≤ n → used' ≤ n
  pub long : length w' ≡ length w

-- a walk that was in a state, with the table w, has come to another, with the table w': its limit has not risen, the best so far is still that, and
-- the table was carried on
pub record Later (p : Problem) (w : List ℕ) (st : State) (w' : List ℕ) (st' : State) : Type 0 where
  pub falls : st'.limit.0 ≤ st.limit.0
  pub kept : (ceiling : ℕ) → Incumbent p ceiling st → Incumbent p ceiling st'
  pub carried : Carried p w st.used w' st'.used

-- ---- places

-- the best lies before the place of the first k starts, or begins with them
abbrev pub UpTo : (best xs : List ℕ) (k : ℕ) → Type 0
UpTo best xs k = Lower ltb k (entry best) (entry xs) ⊎ Same k (entry best) (entry xs)

-- the best lies before the place of the first j starts and then v
abbrev pub BeforeStart : (best xs : List ℕ) (j v : ℕ) → Type 0
BeforeStart best xs j v = Lower ltb j (entry best) (entry xs) ⊎ (Same j (entry best) (entry xs) × (entry best j < v))

-- how many places lie at and below one start of unit j
abbrev pub try_room : Problem → ℕ → ℕ
try_room p j = tree_size p (p.units - suc j)

-- below the place of the first j starts
abbrev pub place_room : Problem → ℕ → ℕ
place_room p j = tree_size p (p.units - j) - 1

-- ---- before and after

-- a node with start v for its unit
abbrev pub start_at : Node → ℕ → Node
start_at node v = record { starts = set node.starts node.unit v; unit = node.unit; bound = node.bound; placed = node.placed }

-- a visit of a node with start v for its unit, in a state
pub record IsStart (node : Node) (v : ℕ) (st : State) (at : Visit) : Type 0 where
  pub is : at ≡ record { node = start_at node v; state = st }

-- a walk in the paper's order: the units placed are those below the node's own
pub record InOrder (node : Node) : Type 0 where
  pub each : (i : ℕ) → has node.placed i ≡ ltb i node.unit

-- before the node's unit is placed: the units below it stand, all schedules before this place are settled, and no more was tried than lies before it
pub record Open (p : Problem) (w us rows ys : List ℕ) (node : Node) (st : State) : Type 0 where
  pub unit : node.unit ≤ p.units
  pub long : p.units ≤ length node.starts
  pub order : InOrder node
  pub stands : Stands p us (has node.placed) (entry node.starts) ys node.bound.0
  pub tallied : Rows p (out_of p (has node.placed) (entry node.starts)) rows
  pub settled : Settled p (entry node.starts) node.unit st.limit.0
  pub past : st.found ≡ true → Lower ltb node.unit (entry st.best) (entry node.starts)
  pub counted : st.tries ≤ passed p (entry node.starts) node.unit
  pub small : st.limit.0 ≤ MOST_LIMIT
  pub held : TableTrue p w st.used

-- before the start of its unit is tried
pub record Untried (p : Problem) (w us rows ys : List ℕ) (node : Node) (st : State) : Type 0 where
  pub unit : node.unit < p.units
  pub long : p.units ≤ length node.starts
  pub permits : permitted p node.unit (entry node.starts node.unit) ≡ true
  pub order : InOrder node
  pub stands : Stands p us (has node.placed) (entry node.starts) ys node.bound.0
  pub tallied : Rows p (out_of p (has node.placed) (entry node.starts)) rows
  pub settled : Settled p (entry node.starts) (node.unit + 1) st.limit.0
  pub past : st.found ≡ true → Lower ltb (node.unit + 1) (entry st.best) (entry node.starts)
  pub counted : st.tries < passed p (entry node.starts) (node.unit + 1)
  pub small : st.limit.0 ≤ MOST_LIMIT
  pub held : TableTrue p w st.used

-- what every function of the walk has: a file, the table with all its parts, and a memo that recalls at its prices
pub record Walking (file : File) (us memo : List ℕ) : Type 0 where
  pub dual : Dual (problem file) us
  pub recalls : MemoTrue (problem file) (price_in us) memo

-- what placing a unit asks
pub record PlaceNeeds (file : File) (us rows ys : List ℕ) (at : Visit) (w memo : List ℕ) : Type 0 where
  pub walking : Walking file us memo
  pub open_at : Open (problem file) w us rows ys at.node at.state

-- what trying a start asks
pub record TryNeeds (file : File) (us rows ys : List ℕ) (at : Visit) (w memo : List ℕ) : Type 0 where
  pub walking : Walking file us memo
  pub untried : Untried (problem file) w us rows ys at.node at.state

-- the same as one fact each: a search for a proof enters every record it meets, and leaves these alone
unfoldable pub PlaceDue : (file : File) → (us rows ys : List ℕ) → Visit → (w memo : List ℕ) → Type 0
PlaceDue file us rows ys at w memo = PlaceNeeds file us rows ys at w memo

unfoldable pub TryDue : (file : File) → (us rows ys : List ℕ) → Visit → (w memo : List ℕ) → Type 0
TryDue file us rows ys at w memo = TryNeeds file us rows ys at w memo

-- what testing a start asks, in whatever order the units are placed: what its own tests ask, and a table that is true
pub record TestNeeds (file : File) (us rows ys : List ℕ) (at : Visit) (w memo : List ℕ) : Type 0 where
  pub tests : TestDue file us rows at.node at.state.limit.0 ys memo
  pub held : TableTrue (problem file) w at.state.used

unfoldable pub TestStartDue : (file : File) → (us rows ys : List ℕ) → Visit → (w memo : List ℕ) → Type 0
TestStartDue file us rows ys at w memo = TestNeeds file us rows ys at w memo

-- a start that was to be tried was judged; what it asked holds still
pub record Judging (file : File) (us rows ys : List ℕ) (at : Visit) (w memo zs memo₁ : List ℕ) (v : Result Euro ℕ) : Type 0 where
  pub due : TryNeeds file us rows ys at w memo
  pub said : Judged (problem file) us at.node at.state.limit.0 zs v
  pub recalls : MemoTrue (problem file) (price_in us) memo₁

-- where the walk goes on from a start that holds: its unit is placed, and the try is counted
pub record Deeper (at : Visit) (bound : Euro) (next : Visit) : Type 0 where
  pub node_is : IsNext at.node bound next.node
  pub state_is : next.state ≡ tried_once at.state

-- a start was judged to hold, and the walk goes on
pub record Taken (file : File) (us rows ys : List ℕ) (at : Visit) (w memo zs memo₁ : List ℕ) (next : Visit) : Type 0 where
  pub bound : Euro
  pub judging : Judging file us rows ys at w memo zs memo₁ (Ok bound)
  pub goes : Deeper at bound next

-- or to fail, by the starts of the units of b; the try is counted here too
pub record Refuted (file : File) (us rows ys : List ℕ) (at : Visit) (w memo zs memo₁ : List ℕ) (step : Step) : Type 0 where
  pub b : ℕ
  pub judging : Judging file us rows ys at w memo zs memo₁ (Err b)
  pub step_is : step ≡ dead_at (tried_once at.state) b

-- it was judged: it holds, or some units' starts are a dead end
unfoldable pub TryTaken : (file : File) → (us rows ys : List ℕ) → Visit → (w memo zs memo₁ : List ℕ) → Result Visit Step → Type 0
TryTaken file us rows ys at w memo zs memo₁ (Ok next) = Taken file us rows ys at w memo zs memo₁ next
TryTaken file us rows ys at w memo zs memo₁ (Err step) = Refuted file us rows ys at w memo zs memo₁ step

-- the place of the first k starts is dead, by the starts of the units of b
pub record DeadEnd (p : Problem) (xs : List ℕ) (k : ℕ) (st : State) (b : ℕ) : Type 0 where
  pub closed : Closed p (has b) (entry xs) st.limit.0
  pub within : (i : ℕ) → has b i ≡ true → i < k
  pub past : st.found ≡ true → UpTo st.best xs k

-- the walk stopped at the mark of m starts, a place of rank at least the budget; all before it is settled
pub record Halted (p : Problem) (budget : ℕ) (st : State) (m : ℕ) : Type 0 where
  pub some : 1 ≤ m
  pub within : m ≤ p.units
  pub permits : (i : ℕ) → i < m → permitted p i (entry st.mark i) ≡ true
  pub late : budget < passed p (entry st.mark) m
  pub settled : Settled p (entry st.mark) m st.limit.0
  pub past : st.found ≡ true → Lower ltb m (entry st.best) (entry st.mark)

-- how it went with the place of the first k starts
abbrev pub WalkEnds : Problem → ℕ → List ℕ → ℕ → State → Walked → Type 0
WalkEnds p budget xs k st (Dead b) = DeadEnd p xs k st b
WalkEnds p budget xs k st (Spent m) = Halted p budget st m

-- the units to blame so far, and those of b but unit j
pub record Shares (blame b j both : ℕ) : Type 0 where
  pub sets : (k : ℕ) → has both k ≡ (has blame k || without (has b) j k)

-- a unit's starts are left: the budget is spent, or unit j has no share in the dead end
abbrev pub LeavesUnit : ℕ → Walked → Type 0
LeavesUnit j (Dead b) = has b j ≡ false
LeavesUnit j (Spent m) = Unit {0}

-- the next start is tried: a dead end, whose units but unit j are to blame too
abbrev pub GoesOn : (blame j both : ℕ) → Walked → Type 0
GoesOn blame j both (Dead b) = Shares blame b j both
GoesOn blame j both (Spent m) = ⊥

-- one or the other
abbrev pub TurnOf : (step : Step) (blame j : ℕ) → Option ℕ → Type 0
TurnOf step blame j None = LeavesUnit j step.walked
TurnOf step blame j (Some both) = GoesOn blame j both step.walked

-- after at most `room` tries
pub record Done (p : Problem) (w w' xs : List ℕ) (k room : ℕ) (st : State) (step : Step) : Type 0 where
  pub later : Later p w st w' step.state
  pub budget : step.state.budget ≡ st.budget
  pub counted : step.state.tries ≤ st.tries + room
  pub ends : WalkEnds p st.budget xs k step.state step.walked

-- the node's unit was placed, as one fact
unfoldable pub PlaceDone : Problem → (w w' : List ℕ) → Node → State → Step → Type 0
PlaceDone p w w' node st step = Done p w w' node.starts node.unit (place_room p node.unit) st step

-- its start was tried
unfoldable pub TryDone : Problem → (w w' : List ℕ) → Visit → Step → Type 0
TryDone p w w' at step = Done p w w' at.node.starts (at.node.unit + 1) (try_room p at.node.unit) at.state step

-- ---- all units placed

-- the units placed are all of the problem's
pub record AllPlaced (p : Problem) (placed : ℕ) : Type 0 where
  pub all : (i : ℕ) → i < p.units → has placed i ≡ true
  pub within : (i : ℕ) → has placed i ≡ true → i < p.units

-- all units stand, with the rows of all
pub record LeafNeeds (file : File) (us rows ys : List ℕ) (at : Visit) (memo : List ℕ) : Type 0 where
  pub walking : Walking file us memo
  pub whole : AllPlaced (problem file) at.node.placed
  pub stands : Stands (problem file) us (has at.node.placed) (entry at.node.starts) ys at.node.bound.0
  pub tallied : Rows (problem file) (out_of (problem file) (has at.node.placed) (entry at.node.starts)) rows
  pub small : at.state.limit.0 ≤ MOST_LIMIT

unfoldable pub LeafDue : (file : File) → (us rows ys : List ℕ) → Visit → (memo : List ℕ) → Type 0
LeafDue file us rows ys at memo = LeafNeeds file us rows ys at memo

-- it costs less than the limit
pub record BetterDue (file : File) (us ys : List ℕ) (at : Visit) (c : ℕ) : Type 0 where
  pub bounded : Bounded file us at.node ys
  pub whole : AllPlaced (problem file) at.node.placed
  pub small : at.state.limit.0 ≤ MOST_LIMIT
  pub costs : c ≡ paid (problem file) (out_in (problem file) (entry at.node.starts))
  pub less : c < at.state.limit.0

-- the schedule of these starts costs the limit or more, and the units of b are to blame
pub record Dearer (p : Problem) (xs : List ℕ) (st : State) (step : Step) : Type 0 where
  pub b : ℕ
  pub is : step ≡ dead_at st b
  pub blames : Blames p (first_units p.units) (entry xs) st.limit.0 b

-- it costs less: it is the best so far, and the units of b are to blame that all others with their starts cost as much
pub record Better (p : Problem) (xs : List ℕ) (st : State) (step : Step) : Type 0 where
  pub c : Euro
  pub b : ℕ
  pub is : step ≡ dead_at (improved_by st xs c) b
  pub costs : c.0 ≡ paid p (out_in p (entry xs))
  pub less : c.0 < st.limit.0
  pub blames : Blames p (first_units p.units) (entry xs) c.0 b

-- one or the other
abbrev pub Leaf : Problem → List ℕ → State → Step → Type 0
Leaf p xs st step = Dearer p xs st step ⊎ Better p xs st step

-- ---- a whole walk

-- every sound schedule costs at least the limit
pub record AllSettled (p : Problem) (limit : ℕ) : Type 0 where
  pub costs : (s : Schedule) → Sound p s → limit ≤ cost p s

-- a walk that has not begun, with its table
pub record Fresh (p : Problem) (w : List ℕ) (st : State) : Type 0 where
  pub nothing : st.found ≡ false
  pub tries : st.tries ≡ 0
  pub small : st.limit.0 ≤ MOST_LIMIT
  pub held : TableTrue p w st.used

-- no sound schedule at all is below the limit; or the walk stopped at its mark
abbrev pub Closes : Problem → ℕ → State → Walked → Type 0
Closes p budget st (Dead b) = AllSettled p st.limit.0
Closes p budget st (Spent m) = Halted p budget st m

-- a walk that has ended
pub record Finished (p : Problem) (w w' : List ℕ) (st : State) (step : Step) : Type 0 where
  pub later : Later p w st w' step.state
  pub closes : Closes p st.budget step.state step.walked

-- the visit of the root: no unit is placed, at this bound
pub record AtRoot (bound : ℕ) (st : State) (at : Visit) : Type 0 where
  pub long : length at.node.starts ≡ 16
  pub none : at.node.unit ≡ 0
  pub nobody : at.node.placed ≡ 0
  pub bound_is : at.node.bound.0 ≡ bound
  pub same : at.state ≡ st

-- what a walk asks
pub record WalkDue (file : File) (us : List ℕ) (st : State) (w memo : List ℕ) : Type 0 where
  pub walking : Walking file us memo
  pub fresh : Fresh (problem file) w st

-- a walk ended unspent
abbrev pub Unspent : Walked → Type 0
Unspent (Dead b) = Unit {0}
Unspent (Spent m) = ⊥

-- the test whether it did, and with a plan
pub record EndsWithPlan (step : Step) (r : Bool) : Type 0 where
  pub plan : r ≡ true → step.state.found ≡ true
  pub unspent : r ≡ true → Unspent step.walked
