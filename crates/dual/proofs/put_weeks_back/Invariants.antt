-- `dual::put_weeks_back` meets its contract: the weeks so far are put back.
-- Assumes nothing.
use Rattle.std.proofs.Common.{◌-◌, ◌≤◌}
use Rattle.dual.specs.Blame.{BackTo}
use Rattle.dual.proofs.put_weeks_back.Given as goal

abbrev pub invariant-loop-k : goal.invariant-loop-k
invariant-loop-k l = (l.k ≤ l.duration) × BackTo l.tables l.first l.k l.initial.values l.values

abbrev pub decreases-loop-k : goal.decreases-loop-k
decreases-loop-k l = l.duration - l.k
