-- `farkas::rounds::multiply_week` meets its contract: the prices so far have moved.
-- Assumes nothing.
use Rattle.std.proofs.Common.{◌-◌, ◌≤◌}
use Rattle.prices.specs.Ranges.{Moved}
use Rattle.farkas.proofs.rounds.multiply_week.Given as goal

abbrev pub invariant-loop-i : goal.invariant-loop-i
invariant-loop-i l = (l.i ≤ l.units) × Moved l.initial.tables l.tables

abbrev pub decreases-loop-i : goal.decreases-loop-i
decreases-loop-i l = l.units - l.i
