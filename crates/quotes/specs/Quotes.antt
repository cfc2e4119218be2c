-- Questions about a file, one by one: a week's cheapest run (document 01, "A week's tally and its cheapest run"), and what an overhaul costs
-- from a permitted start ("Starts, walk order, conflicts"). Weeks, units and starts count from 1.
-- Assumes nothing.
use Rattle.std.specs.Prelude.{ℕ, ◌-◌, ◌/◌, ◌%◌, ◌≡◌, Bool, ◌&&◌, List, ◌++◌, length, get_or, drop, leb}
use Rattle.sums.specs.Logic.{if}
use Rattle.sums.specs.Range.{list_to}
use Rattle.sums.specs.NumSet.{NumSet, has}
use Rattle.model.specs.Problem.{Problem}
use Rattle.model.specs.Domain.{permitted}
use Rattle.model.specs.Plan.{upkeep}
use Rattle.sets.specs.Sets.{SETS}
use Rattle.model.specs.Commitment.{run_cost, Pick, nothing, picked, cheapest_run, NO_RUN, least_cost}
use Rattle.model.specs.Verdict.{Verdict, accepted, refused, and_then}
use Rattle.model.specs.Reading.{read_of}

-- a number and its cost, no such thing, or a refusal
pub data Quoted : Type 0 where
  none : Quoted
  quoted : ℕ → ℕ → Quoted
  refused_quote : ℕ → ℕ → Quoted

-- the file's refusal, or what is said of an accepted file
unfoldable pub quote_with : Verdict → Quoted → Quoted
quote_with accepted q = q
quote_with (refused number place) q = refused_quote number place

-- k is one of 1, .., n
unfoldable pub among : ℕ → ℕ → Bool
among n k = leb 1 k && leb k n

-- a run and its cost
unfoldable pub pick_quote : Problem → ℕ → NumSet → Pick → Quoted
pick_quote p t out nothing = none
pick_quote p t out (picked r) = quoted r (run_cost p t out r)

-- the cheapest run of a week with these units out, where the file has the week
unfoldable pub run_quote : Problem → (week out : ℕ) → Quoted
unfolding among pick_quote
run_quote p week out = if (among p.weeks week) (pick_quote p (week - 1) (has out) (cheapest_run p (week - 1) (has out))) none

-- a permitted start of unit i, from 0, and the overhaul's maintenance cost
unfoldable pub start_quote : Problem → (i start : ℕ) → Quoted
start_quote p i start = if (permitted p i start) (quoted start (upkeep p i start)) none

-- the same of a unit from 1, where the file has it
unfoldable pub upkeep_quote : Problem → (unit start : ℕ) → Quoted
unfolding among start_quote
upkeep_quote p unit start = if (among p.units unit) (start_quote p (unit - 1) start) none

-- ---- a list of queries, each a week times SETS and the number of the units out

-- what the cheapest run costs; a week that the file does not have has none
unfoldable pub query_cost : Problem → ℕ → ℕ
unfolding among
query_cost p q = if (among p.weeks (q / SETS)) (least_cost p (q / SETS - 1) (has (q % SETS))) NO_RUN

-- the cost that query k of a list asks for
unfoldable pub cost_at : Problem → List ℕ → ℕ → ℕ
unfolding query_cost
cost_at p qs k = query_cost p (get_or qs k 0)

-- the call's verdict: the file is tested, then 17 where fewer words are lent than are asked for
unfoldable pub costs_verdict : (file : List ℕ) (asked lent : ℕ) → Verdict
unfolding and_then
costs_verdict file asked lent = and_then (read_of file) (if (leb asked lent) accepted (refused 17 0))

-- the lent words afterwards: a cost for each query, and any beyond kept; all as they were where the call is refused
unfoldable pub costs_into : Verdict → Problem → (queries lent : List ℕ) → List ℕ
unfolding cost_at
costs_into accepted p qs cs = list_to (length qs) (cost_at p qs) ++ drop (length qs) cs
costs_into (refused number place) p qs cs = cs

-- scratch afterwards: free where the call is accepted, unchanged where it is refused
abbrev pub KeptIfRefused : Verdict → List ℕ → List ℕ → Type 0
KeptIfRefused accepted before after = Unit
KeptIfRefused (refused number place) before after = after ≡ before
