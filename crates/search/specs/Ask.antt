-- What one ask is told, and what it leaves in the table (document 01, "A run of asks").
-- Assumes nothing.
use Rattle.std.specs.Prelude.{ℕ, ◌+◌, ◌-◌, ◌≤◌, ◌<◌, ◌≡◌, Bool, true, false, List, length}
use Rattle.sums.specs.Range.{list_to}
use Rattle.sums.specs.Table.{entry}
use Rattle.model.specs.Problem.{Problem}
use Rattle.model.specs.Nogood.{MOST_LIMIT, Nogood}
use Rattle.model.specs.Answer.{Answer, optimal, infeasible, incumbent, unknown, Correct}
use Rattle.model.specs.Asks.{concludes}
use Rattle.instance.specs.declared.file.File.{File}
use Rattle.instance.specs.File.{problem}
use Rattle.nogood.specs.Noting.{KEPT_FREE}
use Rattle.nogood.specs.Stock.{Stock, Grown, EndsUnder}
use Rattle.bound.specs.Tests.{some_startless, Permits, RunsOf}
use Rattle.state.specs.declared.State.{State}
use Rattle.state.specs.declared.Step.{Step}
use Rattle.state.specs.declared.Walked.{Walked}
use Rattle.state.specs.declared.Walked.TheVariants.{Dead, Spent}
use Rattle.farkas.specs.Sums.{ShowsNone}
use Rattle.search.specs.declared.Ask.{Ask}
use Rattle.search.specs.declared.Reply.{Reply}
use Rattle.state.specs.State.{dead_at, EndNoted, WalkStart}
use Rattle.walk.specs.Walk.{TableTrue, Walking}
use Rattle.search.specs.Walks.{SearchDone}

-- what the limit, the best starts, the mark, the runs, and how the walk ended say: a plan, none, a best before the mark, or a mark alone
abbrev pub answer_for : Problem → ℕ → (best mark runs : List ℕ) → Bool → Walked → Answer
answer_for p limit best mark runs true (Dead b) = optimal limit (list_to p.units (entry best)) (list_to p.weeks (entry runs))
answer_for p limit best mark runs false (Dead b) = infeasible
answer_for p limit best mark runs true (Spent m) =
    incumbent limit (list_to p.units (entry best)) (list_to p.weeks (entry runs)) (list_to m (entry mark))
answer_for p limit best mark runs false (Spent m) = unknown (list_to m (entry mark))

-- what a state says
abbrev pub answer_in : Problem → State → List ℕ → Walked → Answer
answer_in p st runs w = answer_for p st.limit.0 st.best st.mark runs st.found w

-- the paper's status and values of a reply
abbrev pub answer_of : Problem → Reply → Answer
answer_of p r = answer_in p r.state r.runs r.walked

-- what a reply asks of how a search ended
pub record ReplyOfDue (file : File) (step : Step) (w : List ℕ) : Type 0 where
  pub permits : step.state.found ≡ true → Permits (problem file) (entry step.state.best)
  pub room : step.state.used < length w
  pub small : step.state.limit.0 ≤ MOST_LIMIT

-- the runs of the best schedule, and the walk's conclusion in the table
pub record ReplyOf (p : Problem) (step : Step) (w w' : List ℕ) (r : Reply) : Type 0 where
  pub runs_are : step.state.found ≡ true → RunsOf p (entry step.state.best) r.runs
  pub concluded : EndNoted w w' step.state r.state step.walked
  pub walked_is : r.walked ≡ step.walked

-- what an ask asks: a ceiling, what is known of the free plant, and a table whose first words hold true nogoods
pub record AskDue (file : File) (us : List ℕ) (ask : Ask) (shown : Bool) (w : List ℕ) (used : ℕ) (memo : List ℕ) : Type 0 where
  pub walking : Walking file us memo
  pub ceiled : ask.ceiling < MOST_LIMIT
  pub none : ShowsNone (problem file) shown
  pub room : used < length w
  pub held : TableTrue (problem file) w used

-- what an ask's reply is made from: what it asked, the state st in which its walks began, and how they ended
pub record Searching (file : File) (us : List ℕ) (ask : Ask) (w : List ℕ) (used : ℕ) (w' : List ℕ) (step : Step) (shown : Bool) : Type 0 where
  pub memo : List ℕ
  pub known : Bool
  pub due : AskDue file us ask known w used memo
  pub st : State
  pub start : WalkStart ask.ceiling ask.budget used st
  pub done : SearchDone (problem file) w w' st step shown
  pub idle : some_startless (problem file) ≡ true → step ≡ dead_at st 0

-- as one fact
unfoldable pub AskSearched : (file : File) → (us : List ℕ) → Ask → (w : List ℕ) → ℕ → (w' : List ℕ) → Step → Bool → Type 0
AskSearched file us ask w used w' step shown = Searching file us ask w used w' step shown

-- an ask with this ceiling and budget, on a table w of true nogoods in so many words, has left the table w' and this reply
pub record Asked (p : Problem) (ceiling budget : ℕ) (w : List ℕ) (used : ℕ) (w' : List ℕ) (r : Reply) : Type 0 where
  -- the answer is right for its own ceiling and budget, for all schedules
  pub correct : Correct p ceiling budget (answer_of p r)
  -- what the table held stands there still, and behind it what the walks learnt; a walk that ended unspent added the nogood without choices under its
  -- last bound, and nothing else did
  pub stock : (gs : List Nogood) → Stock p gs w used → Grown p (EndsUnder (concludes ceiling (answer_of p r))) gs w' r.state.used
  -- the words used grow to those kept free at most, and by one at the end of the walk
  pub room : (n : ℕ) → used ≤ n → length w - KEPT_FREE ≤ n → r.state.used ≤ n + 1
  pub long : length w' ≡ length w
  -- a unit without permitted starts settles the ask before a start is tried, and nobody is to blame
  pub untried : some_startless p ≡ true → (r.walked ≡ Dead 0) × (r.state.tries ≡ 0)
  -- the last bound fits a word
  pub small : r.state.limit.0 ≤ MOST_LIMIT
