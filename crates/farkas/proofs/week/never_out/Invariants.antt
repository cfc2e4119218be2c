-- `farkas::week::never_out` meets its contract: unit by unit.
-- Assumes nothing.
use Rattle.std.proofs.Common.{◌-◌, ◌≤◌}
use Rattle.sums.specs.NumSet.{has}
use Rattle.instance.specs.File.{problem}
use Rattle.farkas.specs.Choices.{NeverTo}
use Rattle.farkas.proofs.week.never_out.Given as goal

abbrev pub invariant-loop-i : goal.invariant-loop-i
invariant-loop-i l = (l.i ≤ l.units) × NeverTo (problem l.file) l.t l.i (has l.never)

abbrev pub decreases-loop-i : goal.decreases-loop-i
decreases-loop-i l = l.units - l.i
