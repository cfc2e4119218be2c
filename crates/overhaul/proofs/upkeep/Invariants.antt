-- `overhaul::upkeep` meets its contract: the sum so far is that of the overhaul's first weeks.
-- Assumes nothing.
use Rattle.std.proofs.Common.{◌+◌, ◌-◌, ◌*◌, ◌≤◌, ◌≡◌}
use Rattle.sums.specs.Sum.{sum_to, shifted, transposed}
use Rattle.instance.specs.File.{problem}
use Rattle.overhaul.proofs.upkeep.Given as goal

abbrev pub invariant-loop-k : goal.invariant-loop-k
invariant-loop-k l =
    (l.k ≤ l.duration) × (l.first + l.duration ≤ l.file.layout.weeks) × (l.sum.0 ≤ 250000 * l.k)
    × (l.sum.0 ≡ sum_to l.k (shifted l.first (transposed (problem l.file).maint l.i)))

abbrev pub decreases-loop-k : goal.decreases-loop-k
decreases-loop-k l = l.duration - l.k
