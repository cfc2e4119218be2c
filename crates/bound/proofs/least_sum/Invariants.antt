-- `bound::least_sum` meets its contract: the sum so far is that of the units so far.
-- Assumes nothing.
use Rattle.std.proofs.Common.{◌-◌, ◌*◌, ◌≤◌, ◌≡◌}
use Rattle.sums.specs.Sum.{sum_to}
use Rattle.tables.specs.Tables.{least_in}
use Rattle.bound.proofs.least_sum.Given as goal

abbrev pub invariant-loop-i : goal.invariant-loop-i
invariant-loop-i l = (l.i ≤ l.units) × (l.units ≤ 16) × (l.sum.0 ≡ sum_to l.i (least_in l.tables)) × (l.sum.0 ≤ 4294967296 * l.i)

abbrev pub decreases-loop-i : goal.decreases-loop-i
decreases-loop-i l = l.units - l.i
