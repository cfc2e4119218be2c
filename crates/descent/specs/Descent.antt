-- The descent: from some plan of the least cost c, unit by unit, to the earliest. Limits are exclusive: at c + 1 what costs c is wanted.
-- Assumes nothing.
use Rattle.std.specs.Prelude.{ℕ, ◌+◌, ◌-◌, ◌≤◌, ◌<◌, ◌≡◌, Bool, true, List}
use Rattle.sums.specs.Table.{entry}
use Rattle.model.specs.Problem.{Problem}
use Rattle.model.specs.Order.{Same}
use Rattle.model.specs.Nogood.{MOST_LIMIT}
use Rattle.instance.specs.declared.file.File.{File}
use Rattle.instance.specs.File.{problem}
use Rattle.instance.specs.declared.Euro.{Euro}
use Rattle.blame.specs.Closed.{Settled}
use Rattle.blame.specs.Placed.{first_units}
use Rattle.dual.specs.declared.Node.{Node}
use Rattle.state.specs.declared.State.{State}
use Rattle.state.specs.declared.Step.{Step}
use Rattle.state.specs.State.{limited_to}
use Rattle.walk.specs.Walk.{TableTrue, Carried, Walking, AllSettled, InOrder, Unspent}
use Rattle.probe.specs.declared.Visit.{Visit}
use Rattle.probe.specs.Probe.{PlanAt, TriedTo, Opened, Startable}
use Rattle.descent.specs.declared.Descent.{Descent}
use Rattle.descent.specs.declared.Ending.TheVariants.{Earliest, NextStart}

-- ---- the propositions

-- the starts q make a plan of the least cost, and no schedule of that cost comes before their first j
pub record Descending (p : Problem) (q : ℕ → ℕ) (c j : ℕ) : Type 0 where
  pub least : AllSettled p c
  pub plan : PlanAt p q c
  pub settled : Settled p q j (c + 1)

-- nor with a start of unit j below v behind them
pub record Lowering (p : Problem) (q : ℕ → ℕ) (c j v : ℕ) : Type 0 where
  pub descending : Descending p q c j
  pub tried : TriedTo p (first_units j) q j v (c + 1)

-- ---- before

-- the units before the node's own are placed as the state's plan has them, under a limit one above its cost
pub record Follows (p : Problem) (node : Node) (st : State) : Type 0 where
  pub order : InOrder node
  pub agrees : Same node.unit (entry node.starts) (entry st.best)
  pub cost : ℕ
  pub limit_is : st.limit.0 ≡ cost + 1

-- before a unit's starts are tried
pub record UnitNeeds (file : File) (us rows ys : List ℕ) (at : Visit) (w memo : List ℕ) : Type 0 where
  pub walking : Walking file us memo
  pub opened : Opened (problem file) w us rows ys at.visit.node at.visit.state
  pub unit : at.visit.node.unit ≤ (problem file).units
  pub follows : Follows (problem file) at.visit.node at.visit.state
  pub descending : Descending (problem file) (entry at.visit.state.best) follows.cost at.visit.node.unit

unfoldable pub UnitDue : (file : File) → (us rows ys : List ℕ) → Visit → (w memo : List ℕ) → Type 0
UnitDue file us rows ys at w memo = UnitNeeds file us rows ys at w memo

-- before one of them is tried: those below it have failed
pub record TryNeeds (file : File) (us rows ys : List ℕ) (at : Visit) (w memo : List ℕ) : Type 0 where
  pub walking : Walking file us memo
  pub startable : Startable (problem file) w us rows ys at.visit.node at.visit.state
  pub follows : Follows (problem file) at.visit.node at.visit.state
  pub lowering : Lowering (problem file) (entry at.visit.state.best) follows.cost at.visit.node.unit (entry at.visit.node.starts at.visit.node.unit)

unfoldable pub TryDue : (file : File) → (us rows ys : List ℕ) → Visit → (w memo : List ℕ) → Type 0
TryDue file us rows ys at w memo = TryNeeds file us rows ys at w memo

-- it holds: unit j is placed at it, and the node's own is the next
pub record HeldNeeds (file : File) (us rows ys : List ℕ) (at : Visit) (w memo : List ℕ) : Type 0 where
  pub walking : Walking file us memo
  pub opened : Opened (problem file) w us rows ys at.visit.node at.visit.state
  pub j : ℕ
  pub next : at.visit.node.unit ≡ j + 1
  pub inside : j < (problem file).units
  pub order : InOrder at.visit.node
  pub agrees : Same j (entry at.visit.node.starts) (entry at.visit.state.best)
  pub cost : ℕ
  pub limit_is : at.visit.state.limit.0 ≡ cost + 1
  pub lowering : Lowering (problem file) (entry at.visit.state.best) cost j (entry at.visit.node.starts j)

unfoldable pub HeldDue : (file : File) → (us rows ys : List ℕ) → Visit → (w memo : List ℕ) → Type 0
HeldDue file us rows ys at w memo = HeldNeeds file us rows ys at w memo

-- ---- after

-- the plan has the start of the unit placed last
pub record Keeps (node : Node) (best : List ℕ) (r : Bool) : Type 0 where
  pub same : r ≡ true → entry node.starts (node.unit - 1) ≡ entry best (node.unit - 1)

-- what a probe for one plan under a limit has told
pub record Told (step : Step) (limit : Euro) (r : Descent) : Type 0 where
  pub used_is : r.state.used ≡ step.state.used
  pub less : r.ending ≡ Earliest → step.state.limit.0 < limit.0
  pub plan : r.ending ≡ Earliest → r.state ≡ limited_to step.state limit
  pub unspent : r.ending ≡ NextStart → Unspent step.walked
  pub none : r.ending ≡ NextStart → limit.0 ≤ step.state.limit.0
  pub same : r.ending ≡ NextStart → r.state ≡ step.state

-- the same visit in another state
pub record IsAt (at : Visit) (st : State) (r : Visit) : Type 0 where
  pub node_is : r.visit.node ≡ at.visit.node
  pub state_is : r.visit.state ≡ st

-- a state after another in which a start has failed: the plan and the limit are as they were, and a start more has failed
pub record Failed (p : Problem) (j v : ℕ) (st r : State) : Type 0 where
  pub best_is : entry r.best ≡ entry st.best
  pub limit_is : r.limit.0 ≡ st.limit.0
  pub lowering : (c : ℕ) → st.limit.0 ≡ c + 1 → Lowering p (entry r.best) c j (v + 1)

-- the descent came back from unit j: its plan is the earliest of all
pub record Lowered (p : Problem) (w w' : List ℕ) (st : State) (r : Descent) : Type 0 where
  pub carried : Carried p w st.used w' r.state.used
  pub earliest : r.ending ≡ Earliest → (c : ℕ) → st.limit.0 ≡ c + 1 → Descending p (entry r.state.best) c p.units

-- or a start of it has failed
pub record Passed (p : Problem) (w w' : List ℕ) (j v : ℕ) (st : State) (r : Descent) : Type 0 where
  pub lowered : Lowered p w w' st r
  pub fails : r.ending ≡ NextStart → Failed p j v st r.state

-- no start of unit j is left to be tried
pub record Ended (p : Problem) (w w' : List ℕ) (st : State) (r : Descent) : Type 0 where
  pub lowered : Lowered p w w' st r
  pub over : r.ending ≡ NextStart → ⊥

unfoldable pub UnitDone : Problem → (w w' : List ℕ) → Visit → Descent → Type 0
UnitDone p w w' at r = Ended p w w' at.visit.state r

unfoldable pub TryDone : Problem → (w w' : List ℕ) → Visit → Descent → Type 0
TryDone p w w' at r = Passed p w w' at.visit.node.unit (entry at.visit.node.starts at.visit.node.unit) at.visit.state r

unfoldable pub HeldDone : Problem → (w w' : List ℕ) → Visit → Descent → Type 0
HeldDone p w w' at r = Passed p w w' (at.visit.node.unit - 1) (entry at.visit.node.starts (at.visit.node.unit - 1)) at.visit.state r

-- a plan was looked for: where there is one the next unit's starts are to be tried
pub record Finding (file : File) (us rows ys : List ℕ) (at : Visit) (w w' memo : List ℕ) (r : Descent) : Type 0 where
  pub carried : Carried (problem file) w at.visit.state.used w' r.state.used
  pub limit_is : r.ending ≡ Earliest → r.state.limit.0 ≡ at.visit.state.limit.0
  pub unit : r.ending ≡ Earliest → (below : Visit) → IsAt at r.state below → UnitNeeds file us rows ys below w' memo
  pub fails : r.ending ≡ NextStart → Failed (problem file) (at.visit.node.unit - 1) (entry at.visit.node.starts (at.visit.node.unit - 1)) at.visit.state r.state

unfoldable pub Found : (file : File) → (us rows ys : List ℕ) → Visit → (w w' memo : List ℕ) → Descent → Type 0
Found file us rows ys at w w' memo r = Finding file us rows ys at w w' memo r

-- ---- the whole descent

-- the state's plan is of the least cost, which is the state's limit
pub record DescentDue (file : File) (us : List ℕ) (st : State) (w memo : List ℕ) : Type 0 where
  pub walking : Walking file us memo
  pub small : st.limit.0 < MOST_LIMIT
  pub held : TableTrue (problem file) w st.used
  pub least : AllSettled (problem file) st.limit.0
  pub plan : PlanAt (problem file) (entry st.best) st.limit.0

-- its earliest was found
pub record Descended (p : Problem) (w w' : List ℕ) (st : State) (r : Descent) : Type 0 where
  pub carried : Carried p w st.used w' r.state.used
  pub earliest : r.ending ≡ Earliest → Descending p (entry r.state.best) st.limit.0 p.units
