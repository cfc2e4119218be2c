-- `dual::put_all_costs` meets its contract: the units so far stand in the table.
-- Assumes nothing.
use Rattle.std.proofs.Common.{◌-◌, ◌≤◌}
use Rattle.dual.specs.Made.{CostsMade}
use Rattle.dual.proofs.put_all_costs.Given as goal

abbrev pub invariant-loop-i : goal.invariant-loop-i
invariant-loop-i l = (l.i ≤ l.units) × CostsMade l.file l.tables l.i l.next

abbrev pub decreases-loop-i : goal.decreases-loop-i
decreases-loop-i l = l.units - l.i
