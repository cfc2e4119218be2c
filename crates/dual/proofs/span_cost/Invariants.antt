-- `dual::span_cost` meets its contract: the sum so far is that of the overhaul's first weeks.
-- Assumes nothing.
use Rattle.std.proofs.Common.{◌+◌, ◌-◌, ◌*◌, ◌≤◌, ◌≡◌}
use Rattle.sums.specs.Sum.{sum_to, shifted}
use Rattle.dual.proofs.CostLaws.{priced_week}
use Rattle.dual.proofs.span_cost.Given as goal

abbrev pub invariant-loop-k : goal.invariant-loop-k
invariant-loop-k l = (l.k ≤ l.duration) × (l.first + l.duration ≤ l.file.layout.weeks) × (l.sum.0 ≤ 4444304 * l.k) ×
    (l.sum.0 ≡ sum_to l.k (shifted l.first (priced_week l.file.words.now l.tables l.i)))

abbrev pub decreases-loop-k : goal.decreases-loop-k
decreases-loop-k l = l.duration - l.k
