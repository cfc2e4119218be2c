-- `bound::first_values` meets its contract: the weeks so far stand in the table.
-- Assumes nothing.
use Rattle.std.proofs.Common.{◌-◌, ◌≤◌}
use Rattle.bound.proofs.RootedLaws.{FrontsTo}
use Rattle.bound.proofs.first_values.Given as goal

abbrev pub invariant-loop-t : goal.invariant-loop-t
invariant-loop-t l = (l.t ≤ 52) × FrontsTo l.tables l.t l.table

abbrev pub decreases-loop-t : goal.decreases-loop-t
decreases-loop-t l = 52 - l.t
