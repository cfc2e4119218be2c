-- `farkas::unit::span_price` meets its contract: the sum so far is that of the overhaul's first weeks.
-- Assumes nothing.
use Rattle.std.proofs.Common.{◌+◌, ◌-◌, ◌*◌, ◌≤◌, ◌≡◌}
use Rattle.sums.specs.Sum.{sum_to, shifted, transposed}
use Rattle.tables.specs.Tables.{MOST_PRICE, price_in}
use Rattle.farkas.proofs.unit.span_price.Given as goal

abbrev pub invariant-loop-k : goal.invariant-loop-k
invariant-loop-k l = (l.k ≤ l.duration) × (l.first + l.duration ≤ 52) × (l.sum.0 ≤ MOST_PRICE * l.k) × (l.sum.0 ≡ sum_to l.k (shifted l.first (transposed (price_in l.tables) l.i)))

abbrev pub decreases-loop-k : goal.decreases-loop-k
decreases-loop-k l = l.duration - l.k
