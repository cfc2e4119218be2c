-- `farkas::all_prices` meets its contract: the sum so far is that of the first weeks.
-- Assumes nothing.
use Rattle.std.proofs.Common.{◌-◌, ◌*◌, ◌≤◌, ◌≡◌}
use Rattle.sums.specs.Sum.{sum_to, row_sum}
use Rattle.tables.specs.Tables.{MOST_WEEK_PRICES, price_in}
use Rattle.farkas.proofs.all_prices.Given as goal

abbrev pub invariant-loop-t : goal.invariant-loop-t
invariant-loop-t l = (l.t ≤ l.weeks) × (l.sum.0 ≤ MOST_WEEK_PRICES * l.t) × (l.sum.0 ≡ sum_to l.t (row_sum l.file.layout.units (price_in l.tables)))

abbrev pub decreases-loop-t : goal.decreases-loop-t
decreases-loop-t l = l.weeks - l.t
