-- `relaxation::start::prices_left` meets its contract: each place has the sum so far.
-- Assumes nothing.
use Rattle.std.proofs.Common.{◌-◌, ◌≤◌, ◌≡◌, length}
use Rattle.sums.specs.NumSet.{has}
use Rattle.tables.specs.Tables.{price_in}
use Rattle.relaxation.specs.Choosing.{PricesLeft}
use Rattle.relaxation.proofs.start.prices_left.Given as goal

abbrev pub invariant-loop-i : goal.invariant-loop-i
invariant-loop-i l = (l.i ≤ l.units) × (length l.table ≡ 17) × PricesLeft (price_in l.tables) l.t (has l.out) l.i l.table

abbrev pub decreases-loop-i : goal.decreases-loop-i
decreases-loop-i l = l.units - l.i
