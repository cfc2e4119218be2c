-- `prices::wants::first_cost` meets its contract: the cost so far is what all weeks cost OFF at most, and each week so far no more than the dearest.
-- Assumes nothing.
use Rattle.std.proofs.Common.{◌+◌, ◌-◌, ◌*◌, ◌≤◌}
use Rattle.tables.specs.Tables.{MOST_PRICE, AMOUNTS}
use Rattle.prices.proofs.wants.first_cost.Given as goal

abbrev pub invariant-loop-k : goal.invariant-loop-k
invariant-loop-k l =
    (l.k ≤ l.duration) × (l.first + l.duration ≤ l.file.layout.weeks) × (l.file.layout.weeks ≤ 52) × (l.sum.0 ≤ AMOUNTS + (250000 + MOST_PRICE) * l.k)

abbrev pub decreases-loop-k : goal.decreases-loop-k
decreases-loop-k l = l.duration - l.k
