-- `farkas::week::sums_of` meets its contract: unit by unit.
-- Assumes nothing.
use Rattle.std.proofs.Common.{◌-◌, ◌≤◌}
use Rattle.farkas.specs.Choices.{SumsDue}
use Rattle.farkas.proofs.week.sums_of.Given as goal

abbrev pub invariant-loop-i : goal.invariant-loop-i
invariant-loop-i l = (l.i ≤ l.units) × SumsDue l.file l.tables l.t l.sums l.i

abbrev pub decreases-loop-i : goal.decreases-loop-i
decreases-loop-i l = l.units - l.i
