-- `descent::lower`, `lower_start` and `lower_held`, which call one another, meet their contracts, by recursion on the number of units left.
-- Assumes nothing.
use Rattle.std.proofs.Common.{◌≡◌, length, ◌+◌, ◌*◌, ◌-◌}
use Rattle.instance.specs.File.{problem}
use Rattle.descent.proofs.CallLaws.{Starts}
use Rattle.descent.proofs.+lower_lower_held_lower_start.Given as goal

abbrev pub decreases-lower : goal.decreases-lower
decreases-lower l = 3 * ((problem l.file.now).units - l.at.visit.node.unit)

abbrev pub invariant-lower-loop-v : goal.invariant-lower-loop-v
invariant-lower-loop-v l =
    Starts l.file l.tables l.rows l.values l.at l.initial.table l.v-end l.table l.s l.v l.memo
    × (length l.table ≡ length l.initial.table) × (length l.memo ≡ length l.initial.memo)

abbrev pub decreases-lower_held : goal.decreases-lower_held
decreases-lower_held l = 3 * ((problem l.file.now).units - l.at.visit.node.unit) + 1

abbrev pub decreases-lower_start : goal.decreases-lower_start
decreases-lower_start l = 3 * ((problem l.file.now).units - l.at.visit.node.unit) - 1
