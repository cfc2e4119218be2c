-- `tables::sum_total` meets its contract: the sum so far is that of the units so far.
-- Assumes nothing.
use Rattle.std.proofs.Common.{◌+◌, ◌-◌, ◌*◌, ◌≤◌, ◌≡◌}
use Rattle.sums.specs.Sum.{sum_to}
use Rattle.tables.specs.Tables.{MOST_PRICE, AMOUNTS, unit_total}
use Rattle.tables.proofs.sum_total.Given as goal

abbrev pub invariant-loop-i : goal.invariant-loop-i
invariant-loop-i l = (l.i ≤ l.n) × (l.n ≤ 16) × (l.sum.0 ≤ (AMOUNTS + 52 * MOST_PRICE) * l.i) × (l.sum.0 ≡ sum_to l.i (unit_total l.tables l.l.weeks))

abbrev pub decreases-loop-i : goal.decreases-loop-i
decreases-loop-i l = l.n - l.i
