-- What the answer for a week says (document 01, "A week's tally and its cheapest run"), case by case.
-- Assumes nothing.
use Rattle.std.specs.Prelude.{ℕ, ◌≡◌, Option, Some, None}
use Rattle.sums.specs.NumSet.{NumSet}
use Rattle.model.specs.Problem.{Problem}
use Rattle.model.specs.Commitment.{run_cost, NoRun, Cheapest}
use Rattle.commitment.specs.declared.BestRun.{BestRun}

-- with the units of `out` out no run meets the demand; or r is the cheapest that does, with its cost
abbrev pub Answers : Problem → ℕ → NumSet → Option BestRun → Type 0
Answers p t out None = NoRun p t out
Answers p t out (Some r) = Cheapest p t out r.number × (r.cost.0 ≡ run_cost p t out r.number)
