-- The walks of an ask: probes at gaps and at the ask's own ceiling, the descent from a plan of theirs, and the last walk. An ask began in a state st;
-- its walks have come to a state s, with the table w.
-- Assumes nothing.
use Rattle.std.specs.Prelude.{ℕ, ◌+◌, ◌≤◌, ◌<◌, ◌≡◌, Bool, false, List}
use Rattle.sums.specs.Table.{entry}
use Rattle.model.specs.Problem.{Problem}
use Rattle.model.specs.Nogood.{MOST_LIMIT}
use Rattle.instance.specs.declared.file.File.{File}
use Rattle.instance.specs.File.{problem}
use Rattle.state.specs.declared.State.{State}
use Rattle.state.specs.declared.Step.{Step}
use Rattle.prices.specs.Ranges.{PricedFile}
use Rattle.farkas.specs.Sums.{ShowsNone}
use Rattle.walk.specs.Walk.{TableTrue, Carried, Walking, AllSettled, WalkDue, Finished, Unspent}
use Rattle.probe.specs.Probe.{PlanAt}
use Rattle.state.specs.State.{renewed_at}
use Rattle.search.specs.declared.gaps.Outcome.{Outcome}
use Rattle.search.specs.declared.gaps.Outcome.TheVariants.{Plan, NoPlan, Spent}
use Rattle.search.specs.declared.gaps.GapTurn.{GapTurn}
use Rattle.search.specs.declared.gaps.GapEnd.{GapEnd}
use Rattle.search.specs.declared.gaps.GapEnd.TheVariants.{Found, Vain}
use Rattle.search.specs.declared.gaps.Probes.{Probes}
use Rattle.search.specs.declared.gaps.Probes.TheVariants.{AtPlan, AtCeiling}

-- what the walks of an ask ask, and what is known of the free plant
pub record SearchDue (file : File) (us : List ℕ) (st : State) (shown : Bool) (w memo : List ℕ) : Type 0 where
  pub walk : WalkDue file us st w memo
  pub none : ShowsNone (problem file) shown

-- they have ended, and what is known then
pub record SearchDone (p : Problem) (w w' : List ℕ) (st : State) (step : Step) (shown : Bool) : Type 0 where
  pub finished : Finished p w w' st step
  pub none : ShowsNone p shown

-- how a probe under a limit ended: unspent and with a plan, unspent and without, or spent
abbrev pub OutcomeOf : Step → (limit : ℕ) → Outcome → Type 0
OutcomeOf step limit Plan = Unspent step.walked × (step.state.limit.0 < limit)
OutcomeOf step limit NoPlan = Unspent step.walked × (limit ≤ step.state.limit.0)
OutcomeOf step limit Spent = ¬ Unspent step.walked

-- what a further walk asks
pub record Going (file : File) (us : List ℕ) (st s : State) (w memo : List ℕ) : Type 0 where
  pub walking : Walking file us memo
  pub nothing : st.found ≡ false
  pub small : st.limit.0 ≤ MOST_LIMIT
  pub held : TableTrue (problem file) w s.used

unfoldable pub GoingDue : (file : File) → (us : List ℕ) → (st s : State) → (w memo : List ℕ) → Type 0
GoingDue file us st s w memo = Going file us st s w memo

-- the state's plan is of the least cost, below the ask's limit
pub record Planned (p : Problem) (st s : State) : Type 0 where
  pub below : s.limit.0 < st.limit.0
  pub least : AllSettled p s.limit.0
  pub plan : PlanAt p (entry s.best) s.limit.0

-- what the descent asks
pub record PlanGoing (file : File) (us : List ℕ) (st s : State) (w memo : List ℕ) : Type 0 where
  pub going : Going file us st s w memo
  pub planned : Planned (problem file) st s

unfoldable pub PlanDue : (file : File) → (us : List ℕ) → (st s : State) → (w memo : List ℕ) → Type 0
PlanDue file us st s w memo = PlanGoing file us st s w memo

-- what the probe at the ask's own ceiling asks
pub record CeilingGoing (file : File) (us : List ℕ) (st s : State) (w memo : List ℕ) : Type 0 where
  pub going : Going file us st s w memo
  pub own : s.limit.0 ≡ st.limit.0

unfoldable pub CeilingDue : (file : File) → (us : List ℕ) → (st s : State) → (w memo : List ℕ) → Type 0
CeilingDue file us st s w memo = CeilingGoing file us st s w memo

-- from there the ask is finished, whatever its first table was
pub record Settles (p : Problem) (w w' : List ℕ) (st s : State) (step : Step) : Type 0 where
  pub each : (w₀ : List ℕ) → Carried p w₀ st.used w s.used → Finished p w₀ w' st step

-- and what is known of the free plant is true
pub record Concludes (p : Problem) (w w' : List ℕ) (st s : State) (step : Step) (shown : Bool) : Type 0 where
  pub settles : Settles p w w' st s step
  pub none : ShowsNone p shown

-- where the probes at gaps were all in vain: what the probe at the ceiling asks, and what is known of the free plant is true
pub record InVain (file : File) (us : List ℕ) (st s : State) (shown : Bool) (w memo : List ℕ) : Type 0 where
  pub ceiling : CeilingGoing file us st s w memo
  pub none : ShowsNone (problem file) shown

unfoldable pub VainDue : (file : File) → (us : List ℕ) → (st s : State) → Bool → (w memo : List ℕ) → Type 0
VainDue file us st s shown w memo = InVain file us st s shown w memo

-- ---- probes at gaps

-- before the first probe at a gap
pub record FirstTurn (st : State) (r : GapTurn) : Type 0 where
  pub state_is : r.state ≡ st
  pub some : 1 ≤ r.gap.0
  pub fits : r.root.0 + r.room.0 ≤ st.limit.0

-- the probe at the next gap, before it begins
abbrev pub probe_of : GapTurn → State
probe_of at = renewed_at at.state (record { 0 = at.root.0 + at.gap.0 + 1 }) at.left

-- what the turn after a probe in vain asks
pub record AfterVain (file : File) (us : List ℕ) (at : GapTurn) (shown : Bool) : Type 0 where
  pub priced : PricedFile file us
  pub none : ShowsNone (problem file) shown
  pub some : 1 ≤ at.gap.0
  pub more : at.gap.0 < at.room.0
  pub few : at.room.0 ≤ MOST_LIMIT

-- that turn, where the probe has come to a state s: the same bound and room, and a wider gap
pub record VainOn (p : Problem) (at : GapTurn) (s : State) (shown : Bool) (r : GapTurn) : Type 0 where
  pub state_is : r.state ≡ s
  pub root_is : r.root ≡ at.root
  pub room_is : r.room ≡ at.room
  pub rises : at.gap.0 < r.gap.0
  pub none : ShowsNone p shown

-- where the probes at gaps stand, in an ask that began in a state st
pub record GapGoing (file : File) (us : List ℕ) (st : State) (at : GapTurn) (shown : Bool) (w memo : List ℕ) : Type 0 where
  pub going : Going file us st at.state w memo
  pub some : 1 ≤ at.gap.0
  pub fits : at.root.0 + at.room.0 ≤ st.limit.0
  pub none : ShowsNone (problem file) shown

unfoldable pub GapAt : (file : File) → (us : List ℕ) → State → GapTurn → Bool → (w memo : List ℕ) → Type 0
GapAt file us st at shown w memo = GapGoing file us st at shown w memo

-- a plan was found, in a state s; what the table w held in so many words stands there
pub record PlanFound (file : File) (us : List ℕ) (st : State) (w : List ℕ) (used : ℕ) (w' memo' : List ℕ) (shown' : Bool) (s : State) : Type 0 where
  pub plan : PlanGoing file us st s w' memo'
  pub carried : Carried (problem file) w used w' s.used
  pub none : ShowsNone (problem file) shown'

-- one probe more was in vain
pub record GapStep (file : File) (us : List ℕ) (st : State) (w : List ℕ) (at : GapTurn) (w' memo' : List ℕ) (shown' : Bool) (r : GapTurn) : Type 0 where
  pub next : GapGoing file us st r shown' w' memo'
  pub carried : Carried (problem file) w at.state.used w' r.state.used
  pub room_is : r.room.0 ≡ at.room.0
  pub rises : at.gap.0 < r.gap.0

-- one probe more
abbrev pub GapNext : (file : File) → (us : List ℕ) → State → (w : List ℕ) → GapTurn → (w' memo' : List ℕ) → Bool → GapEnd → Type 0
GapNext file us st w at w' memo' shown' (Found s) = PlanFound file us st w at.state.used w' memo' shown' s
GapNext file us st w at w' memo' shown' (Vain r) = GapStep file us st w at w' memo' shown' r

-- all were in vain: they have come to the ask's own limit, in a state s
pub record GapsVain (file : File) (us w₀ : List ℕ) (st : State) (w memo : List ℕ) (shown : Bool) (s : State) : Type 0 where
  pub vain : InVain file us st s shown w memo
  pub carried : Carried (problem file) w₀ st.used w s.used

-- where the probes at gaps have come, from the table w₀
abbrev pub GapsDone : (file : File) → (us w₀ : List ℕ) → State → (w memo : List ℕ) → Bool → Probes → Type 0
GapsDone file us w₀ st w memo shown (AtPlan s) = PlanFound file us st w₀ st.used w memo shown s
GapsDone file us w₀ st w memo shown (AtCeiling s) = GapsVain file us w₀ st w memo shown s
