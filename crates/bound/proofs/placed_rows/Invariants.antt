-- `bound::placed_rows` meets its contract: the unit is out in the weeks so far, and the others' rows are as they were.
-- Assumes nothing.
use Rattle.std.proofs.Common.{◌+◌, ◌-◌, ◌≤◌}
use Rattle.instance.specs.File.{problem}
use Rattle.bound.proofs.RowLaws.{RowsTo}
use Rattle.bound.proofs.placed_rows.Given as goal

abbrev pub invariant-loop-k : goal.invariant-loop-k
invariant-loop-k l =
    (l.k ≤ l.weeks) × (l.first + l.weeks ≤ l.file.layout.weeks) × RowsTo (problem l.file) l.rows l.j l.first l.k l.next

abbrev pub decreases-loop-k : goal.decreases-loop-k
decreases-loop-k l = l.weeks - l.k
