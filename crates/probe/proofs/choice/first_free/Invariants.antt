-- `probe::choice::first_free` meets its contract: all before the unit are placed.
-- Assumes nothing.
use Rattle.std.proofs.Common.{◌-◌, ◌≤◌}
use Rattle.probe.proofs.ChoiceLaws.{PlacedTo}
use Rattle.probe.proofs.choice.first_free.Given as goal

abbrev pub invariant-loop-i : goal.invariant-loop-i
invariant-loop-i l = (l.i ≤ l.units) × PlacedTo l.placed l.i

abbrev pub decreases-loop-i : goal.decreases-loop-i
decreases-loop-i l = l.units - l.i
