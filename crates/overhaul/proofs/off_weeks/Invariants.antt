-- `overhaul::off_weeks` meets its contract: the sum so far is that of the weeks so far.
-- Assumes nothing.
use Rattle.std.proofs.Common.{◌-◌, ◌*◌, ◌≤◌, ◌≡◌}
use Rattle.sums.specs.Sum.{sum_to, transposed}
use Rattle.instance.specs.File.{problem}
use Rattle.overhaul.proofs.off_weeks.Given as goal

abbrev pub invariant-loop-t : goal.invariant-loop-t
invariant-loop-t l = (l.t ≤ l.weeks) × (l.sum.0 ≤ 250000 * l.t) × (l.sum.0 ≡ sum_to l.t (transposed (problem l.file).off l.i))

abbrev pub decreases-loop-t : goal.decreases-loop-t
decreases-loop-t l = l.weeks - l.t
