-- `bound::has_no_start` meets its contract: a range of starts whose last lies before its first is empty, and no other is.
-- Assumes nothing.
use Rattle.std.proofs.Common.{◌-◌, ◌≤◌, ◌≡◌, false}
use Rattle.sums.specs.Range.{some_to}
use Rattle.instance.specs.File.{problem}
use Rattle.bound.specs.Tests.{no_start}
use Rattle.bound.proofs.has_no_start.Given as goal

abbrev pub invariant-loop-i : goal.invariant-loop-i
invariant-loop-i l = (l.i ≤ l.units) × (some_to l.i (no_start (problem l.file)) ≡ false)

abbrev pub decreases-loop-i : goal.decreases-loop-i
decreases-loop-i l = l.units - l.i
