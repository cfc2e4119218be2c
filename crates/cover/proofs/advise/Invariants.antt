-- `cover::advise` meets its contract: rate is a quotient of a weight.
-- Assumes nothing.
use Rattle.std.proofs.Common.{◌-◌, ◌≤◌}
use Rattle.cover.specs.Tables.{MOST_WEIGHT}
use Rattle.cover.proofs.advise.Given as goal

abbrev pub invariant-loop-n : goal.invariant-loop-n
invariant-loop-n l = (l.n ≤ l.u) × (l.rate ≤ MOST_WEIGHT)

abbrev pub decreases-loop-n : goal.decreases-loop-n
decreases-loop-n l = l.u - l.n
