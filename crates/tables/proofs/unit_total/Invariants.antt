-- `tables::unit_total` meets its contract: the sum so far is the OFF cost and the prices of the weeks so far.
-- Assumes nothing.
use Rattle.std.proofs.Common.{◌+◌, ◌-◌, ◌*◌, ◌≤◌, ◌≡◌}
use Rattle.tables.specs.Tables.{MOST_PRICE, AMOUNTS, unit_total}
use Rattle.tables.proofs.unit_total.Given as goal

abbrev pub invariant-loop-t : goal.invariant-loop-t
invariant-loop-t l = (l.t ≤ l.weeks) × (l.weeks ≤ 52) × (l.sum.0 ≤ AMOUNTS + MOST_PRICE * l.t) × (l.sum.0 ≡ unit_total l.tables l.t l.i)

abbrev pub decreases-loop-t : goal.decreases-loop-t
decreases-loop-t l = l.weeks - l.t
