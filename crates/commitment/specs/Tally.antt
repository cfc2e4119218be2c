-- A week's tally of the units out (document 01, "A week's tally and its cheapest run").
-- Assumes nothing.
use Rattle.std.specs.Prelude.{ℕ, ◌≡◌}
use Rattle.sums.specs.NumSet.{has}
use Rattle.model.specs.Problem.{Problem}
use Rattle.model.specs.Rules.{headcount}
use Rattle.model.specs.Commitment.{out_cost}
use Rattle.commitment.specs.declared.Tally.{Tally}

-- nobody is out
abbrev pub no_tally : Tally
no_tally = record { out = 0; count = 0; cost = record { 0 = 0 } }

-- y counts the units that it says are out, and has what they cost in week t
pub record Tallies (p : Problem) (t : ℕ) (y : Tally) : Type 0 where
  pub many : y.count ≡ headcount p (has y.out)
  pub sum : y.cost.0 ≡ out_cost p t (has y.out)
