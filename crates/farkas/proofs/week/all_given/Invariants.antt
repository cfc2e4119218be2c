-- `farkas::week::all_given` meets its contract: the sum so far is that of the first units.
-- Assumes nothing.
use Rattle.std.proofs.Common.{◌-◌, ◌*◌, ◌≤◌, ◌≡◌}
use Rattle.sums.specs.Sum.{sum_to}
use Rattle.instance.specs.File.{problem}
use Rattle.farkas.proofs.week.all_given.Given as goal

abbrev pub invariant-loop-i : goal.invariant-loop-i
invariant-loop-i l = (l.i ≤ l.units) × (l.sum.0 ≤ 1000000 * l.i) × (l.sum.0 ≡ sum_to l.i ((problem l.file).capacity l.t))

abbrev pub decreases-loop-i : goal.decreases-loop-i
decreases-loop-i l = l.units - l.i
