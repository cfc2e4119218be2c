-- `prices::effort::with_hard_weeks` meets its contract: what stands before the hard weeks is as it was.
-- Assumes nothing.
use Rattle.std.proofs.Common.{◌-◌, ◌≤◌}
use Rattle.tables.specs.Tables.{HARD_WEEKS, Begins}
use Rattle.prices.proofs.effort.with_hard_weeks.Given as goal

abbrev pub invariant-loop-t : goal.invariant-loop-t
invariant-loop-t l = (l.t ≤ 52) × Begins HARD_WEEKS l.initial.tables l.tables

abbrev pub decreases-loop-t : goal.decreases-loop-t
decreases-loop-t l = 52 - l.t
