-- A probe: a walk from some units placed that takes the next unit as it likes. Its limit is exclusive and falls to the cost of each plan it finds;
-- it keeps no place, no rank and no mark.
-- Assumes nothing.
use Rattle.std.specs.Prelude.{ℕ, ◌≤◌, ◌<◌, ◌≡◌, true, false, List, length, set}
use Rattle.sums.specs.Range.{count_to}
use Rattle.sums.specs.NumSet.{NumSet, has, complement}
use Rattle.sums.specs.Table.{entry}
use Rattle.model.specs.Problem.{Problem}
use Rattle.model.specs.Domain.{permitted}
use Rattle.model.specs.Schedule.{Schedule, out_in, Sound, cost}
use Rattle.model.specs.Nogood.{MOST_LIMIT}
use Rattle.instance.specs.declared.file.File.{File}
use Rattle.instance.specs.File.{problem}
use Rattle.blame.specs.Closed.{Agree}
use Rattle.blame.specs.Placed.{out_of, paid, Standing}
use Rattle.tables.specs.Tables.{price_in}
use Rattle.relaxation.specs.Relaxed.{MemoTrue}
use Rattle.dual.specs.declared.Node.{Node}
use Rattle.dual.specs.Blame.{placed_after}
use Rattle.bound.specs.Rows.{Rows}
use Rattle.std.specs.Prelude.{Result, Ok, Err}
use Rattle.instance.specs.declared.Euro.{Euro}
use Rattle.bound.specs.Tests.{Blames, Stands, Judged}
use Rattle.state.specs.declared.State.{State}
use Rattle.state.specs.declared.Step.{Step}
use Rattle.state.specs.declared.Walked.{Walked}
use Rattle.state.specs.declared.Walked.TheVariants.{Dead, Spent}
use Rattle.state.specs.State.{tried_once, dead_at}
use Rattle.walk.specs.Walk.{TableTrue, Carried, Walking, Deeper, AllSettled, AllPlaced, Unspent}
use Rattle.probe.specs.declared.Visit.{Visit}

-- ---- units placed

-- how many units are not placed: the measure
unfoldable pub unplaced : Problem → NumSet → ℕ
unplaced p a = count_to p.units (complement a)

-- a unit that is not placed; as many as there are where all are
pub record Chosen (units placed r : ℕ) : Type 0 where
  pub fresh : r < units → has placed r ≡ false
  pub all : units ≤ r → (i : ℕ) → i < units → has placed i ≡ true

-- ---- plans

-- all units stand at these starts
pub record PlanStands (p : Problem) (plan : ℕ → ℕ) : Type 0 where
  pub units : NumSet
  pub all : (i : ℕ) → i < p.units → units i ≡ true
  pub standing : Standing p units plan

-- and cost so much
pub record PlanAt (p : Problem) (plan : ℕ → ℕ) (c : ℕ) : Type 0 where
  pub stands : PlanStands p plan
  pub costs : paid p (out_in p plan) ≡ c

-- a plan with the starts of the units of a, at this cost
pub record Reached (p : Problem) (a : NumSet) (starts plan : ℕ → ℕ) (c : ℕ) : Type 0 where
  pub agrees : Agree p a starts plan
  pub plan_at : PlanAt p plan c

-- the limit has fallen to the cost of a plan with the starts of the units of a; or it is as it was, and so is the plan
pub record Improves (p : Problem) (a : NumSet) (starts : ℕ → ℕ) (limit₀ limit : ℕ) (plan₀ plan : ℕ → ℕ) : Type 0 where
  pub falls : limit ≤ limit₀
  pub reached : limit < limit₀ → Reached p a starts plan limit
  pub kept : limit₀ ≤ limit → plan ≡ plan₀

-- ---- what a probe says

-- nothing is left below the limit, by the starts of units of a; or the probe stopped, at a plan or with its tries spent
abbrev pub Says : Problem → NumSet → (starts : ℕ → ℕ) → ℕ → Walked → Type 0
Says p a starts limit (Dead b) = Blames p a starts limit b
Says p a starts limit (Spent m) = Unit {0}

-- the state st and the table w have become others: the table was carried on, and no more was tried than the budget allows
pub record Goes (p : Problem) (w : List ℕ) (st : State) (w' : List ℕ) (st' : State) : Type 0 where
  pub carried : Carried p w st.used w' st'.used
  pub budget : st'.budget ≡ st.budget
  pub counted : st.tries ≤ st.budget → st'.tries ≤ st'.budget

-- a probe from the units of a at these starts
pub record Probed (p : Problem) (a : NumSet) (starts : ℕ → ℕ) (w w' : List ℕ) (st : State) (step : Step) : Type 0 where
  pub improves : Improves p a starts st.limit.0 step.state.limit.0 (entry st.best) (entry step.state.best)
  pub says : Says p a starts step.state.limit.0 step.walked
  pub goes : Goes p w st w' step.state

-- every sound schedule with these starts of the units of b, and a start of unit i below v, costs at least the limit
pub record TriedTo (p : Problem) (b : NumSet) (starts : ℕ → ℕ) (i v limit : ℕ) : Type 0 where
  pub costs : (s : Schedule) → Sound p s → Agree p b starts s.start → s.start i < v → limit ≤ cost p s

-- the starts of unit i below v have failed, by the units of b, all of a
pub record Trying (p : Problem) (a : NumSet) (starts : ℕ → ℕ) (i : ℕ) (w₀ w : List ℕ) (st₀ st : State) (b v : ℕ) : Type 0 where
  pub improves : Improves p a starts st₀.limit.0 st.limit.0 (entry st₀.best) (entry st.best)
  pub within : (k : ℕ) → has b k ≡ true → a k ≡ true
  pub failed : TriedTo p (has b) starts i v st.limit.0
  pub goes : Goes p w₀ st₀ w st

-- ---- before and after

-- the units placed stand at the node's bound, with their rows; what the table holds is true
pub record Opened (p : Problem) (w us rows ys : List ℕ) (node : Node) (st : State) : Type 0 where
  pub within : (i : ℕ) → has node.placed i ≡ true → i < p.units
  pub long : length node.starts ≡ 16
  pub stands : Stands p us (has node.placed) (entry node.starts) ys node.bound.0
  pub tallied : Rows p (out_of p (has node.placed) (entry node.starts)) rows
  pub small : st.limit.0 ≤ MOST_LIMIT
  pub held : TableTrue p w st.used

-- the same, and the node's unit, which is not placed, has a permitted start
pub record Startable (p : Problem) (w us rows ys : List ℕ) (node : Node) (st : State) : Type 0 where
  pub unit : node.unit < p.units
  pub fresh : has node.placed node.unit ≡ false
  pub permits : permitted p node.unit (entry node.starts node.unit) ≡ true
  pub opened : Opened p w us rows ys node st

-- what placing a unit asks
pub record PlaceNeeds (file : File) (us rows ys : List ℕ) (at : Visit) (w memo : List ℕ) : Type 0 where
  pub walking : Walking file us memo
  pub opened : Opened (problem file) w us rows ys at.visit.node at.visit.state

-- what trying a start asks
pub record StartNeeds (file : File) (us rows ys : List ℕ) (at : Visit) (w memo : List ℕ) : Type 0 where
  pub walking : Walking file us memo
  pub startable : Startable (problem file) w us rows ys at.visit.node at.visit.state

-- the same as one fact each
unfoldable pub PlaceDue : (file : File) → (us rows ys : List ℕ) → Visit → (w memo : List ℕ) → Type 0
PlaceDue file us rows ys at w memo = PlaceNeeds file us rows ys at w memo

unfoldable pub StartDue : (file : File) → (us rows ys : List ℕ) → Visit → (w memo : List ℕ) → Type 0
StartDue file us rows ys at w memo = StartNeeds file us rows ys at w memo

-- what weighing a plan asks: no unit is left
pub record WeighNeeds (file : File) (us rows ys : List ℕ) (at : Visit) (memo : List ℕ) : Type 0 where
  pub w : List ℕ
  pub needs : PlaceNeeds file us rows ys at w memo
  pub whole : AllPlaced (problem file) at.visit.node.placed

unfoldable pub WeighDue : (file : File) → (us rows ys : List ℕ) → Visit → (memo : List ℕ) → Type 0
WeighDue file us rows ys at memo = WeighNeeds file us rows ys at memo

-- a start that was to be tried was judged within the budget; what it asked holds still
pub record Judging (file : File) (us rows ys : List ℕ) (at : Visit) (w memo zs memo₁ : List ℕ) (v : Result Euro ℕ) : Type 0 where
  pub due : StartNeeds file us rows ys at w memo
  pub left : at.visit.state.tries < at.visit.state.budget
  pub said : Judged (problem file) us at.visit.node at.visit.state.limit.0 zs v
  pub recalls : MemoTrue (problem file) (price_in us) memo₁

-- it holds, and the probe goes on
pub record Taken (file : File) (us rows ys : List ℕ) (at : Visit) (w memo zs memo₁ : List ℕ) (next : Visit) : Type 0 where
  pub bound : Euro
  pub judging : Judging file us rows ys at w memo zs memo₁ (Ok bound)
  pub goes : Deeper at.visit bound next.visit

-- it fails, by the starts of the units of b; the try is counted here too
pub record Refuted (file : File) (us rows ys : List ℕ) (at : Visit) (w memo zs memo₁ : List ℕ) (step : Step) : Type 0 where
  pub b : ℕ
  pub judging : Judging file us rows ys at w memo zs memo₁ (Err b)
  pub step_is : step ≡ dead_at (tried_once at.visit.state) b

-- it holds, or some units' starts are a dead end
unfoldable pub StartTaken : (file : File) → (us rows ys : List ℕ) → Visit → (w memo zs memo₁ : List ℕ) → Result Visit Step → Type 0
StartTaken file us rows ys at w memo zs memo₁ (Ok next) = Taken file us rows ys at w memo zs memo₁ next
StartTaken file us rows ys at w memo zs memo₁ (Err step) = Refuted file us rows ys at w memo zs memo₁ step

-- a node with start v for a unit
abbrev pub start_at : Node → (unit v : ℕ) → Node
start_at node unit v = record { starts = set node.starts unit v; unit = unit; bound = node.bound; placed = node.placed }

-- a visit of it in a state
pub record IsStart (at : Visit) (unit v : ℕ) (st : State) (r : Visit) : Type 0 where
  pub node_is : r.visit.node ≡ start_at at.visit.node unit v
  pub state_is : r.visit.state ≡ st

-- a step, or the same stopped
pub record Stops (step r : Step) : Type 0 where
  pub limit_is : r.state.limit ≡ step.state.limit
  pub best_is : r.state.best ≡ step.state.best
  pub used_is : r.state.used ≡ step.state.used
  pub tries_is : r.state.tries ≡ step.state.tries
  pub budget_is : r.state.budget ≡ step.state.budget
  pub says : (p : Problem) (a : NumSet) (starts : ℕ → ℕ) (limit : ℕ) → Says p a starts limit step.walked → Says p a starts limit r.walked

-- a plan was weighed; the table is not touched
pub record Weighed (p : Problem) (node : Node) (st : State) (step : Step) : Type 0 where
  pub each : (w : List ℕ) → Probed p (has node.placed) (entry node.starts) w w st step

-- a unit was placed, as one fact
unfoldable pub PlaceDone : Problem → (w w' : List ℕ) → Node → State → Step → Type 0
PlaceDone p w w' node st step = Probed p (has node.placed) (entry node.starts) w w' st step

-- the start of the node's unit was tried
unfoldable pub StartDone : Problem → (w w' : List ℕ) → Visit → Step → Type 0
StartDone p w w' at step = Probed p (placed_after at.visit.node) (entry at.visit.node.starts) w w' at.visit.state step

-- ---- from the root

-- what a probe from the root asks
pub record ProbeDue (file : File) (us : List ℕ) (st : State) (w memo : List ℕ) : Type 0 where
  pub walking : Walking file us memo
  pub small : st.limit.0 ≤ MOST_LIMIT
  pub held : TableTrue (problem file) w st.used

-- it has ended: where it was not stopped nothing is below its last limit, and where that has fallen it is the cost of the plan
pub record RootDone (p : Problem) (w w' : List ℕ) (st : State) (step : Step) : Type 0 where
  pub falls : step.state.limit.0 ≤ st.limit.0
  pub settled : Unspent step.walked → AllSettled p step.state.limit.0
  pub plan : step.state.limit.0 < st.limit.0 → PlanAt p (entry step.state.best) step.state.limit.0
  pub goes : Goes p w st w' step.state
