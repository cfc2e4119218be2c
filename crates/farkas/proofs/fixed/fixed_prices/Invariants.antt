-- `farkas::fixed::fixed_prices` meets its contract: the prices of the weeks so far have moved within their range.
-- Assumes nothing.
use Rattle.std.proofs.Common.{◌-◌, ◌≤◌}
use Rattle.prices.specs.Ranges.{Moved}
use Rattle.farkas.proofs.fixed.fixed_prices.Given as goal

abbrev pub invariant-loop-t : goal.invariant-loop-t
invariant-loop-t l = (l.t ≤ l.weeks) × Moved l.tables l.next

abbrev pub decreases-loop-t : goal.decreases-loop-t
decreases-loop-t l = l.weeks - l.t
