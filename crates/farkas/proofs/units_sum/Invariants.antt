-- `farkas::units_sum` meets its contract: unit by unit.
-- Assumes nothing.
use Rattle.std.proofs.Common.{◌-◌, ◌*◌, ◌≤◌}
use Rattle.instance.specs.File.{problem}
use Rattle.tables.specs.Tables.{price_in}
use Rattle.blame.specs.Free.{UnitFree}
use Rattle.farkas.specs.Sums.{MOST_SPAN_PRICE, Summed}
use Rattle.farkas.proofs.units_sum.Given as goal

abbrev pub invariant-loop-i : goal.invariant-loop-i
invariant-loop-i l = (l.i ≤ l.units) × (l.sum.0 ≤ MOST_SPAN_PRICE * l.i) × Summed (UnitFree (problem l.file) (price_in l.tables)) l.i l.sum.0

abbrev pub decreases-loop-i : goal.decreases-loop-i
decreases-loop-i l = l.units - l.i
