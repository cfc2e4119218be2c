-- `farkas::week_prices` meets its contract: the sum so far is that of the first units.
-- Assumes nothing.
use Rattle.std.proofs.Common.{◌-◌, ◌*◌, ◌≤◌, ◌≡◌}
use Rattle.sums.specs.Sum.{sum_to}
use Rattle.tables.specs.Tables.{MOST_PRICE, price_in}
use Rattle.farkas.proofs.week_prices.Given as goal

abbrev pub invariant-loop-i : goal.invariant-loop-i
invariant-loop-i l = (l.i ≤ l.units) × (l.sum.0 ≤ MOST_PRICE * l.i) × (l.sum.0 ≡ sum_to l.i (price_in l.tables l.t))

abbrev pub decreases-loop-i : goal.decreases-loop-i
decreases-loop-i l = l.units - l.i
