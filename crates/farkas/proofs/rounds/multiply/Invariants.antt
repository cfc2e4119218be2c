-- `farkas::rounds::multiply` meets its contract: the prices of the weeks so far have moved.
-- Assumes nothing.
use Rattle.std.proofs.Common.{◌-◌, ◌≤◌}
use Rattle.prices.specs.Ranges.{Moved}
use Rattle.farkas.proofs.rounds.multiply.Given as goal

abbrev pub invariant-loop-t : goal.invariant-loop-t
invariant-loop-t l = (l.t ≤ l.weeks) × Moved l.initial.tables l.tables

abbrev pub decreases-loop-t : goal.decreases-loop-t
decreases-loop-t l = l.weeks - l.t
