-- `rules::weekly::week_output` meets its contract: the sum so far is that of the first units.
-- Assumes nothing.
use Rattle.std.proofs.Common.{◌-◌, ◌*◌, ◌≤◌, ◌≡◌}
use Rattle.sums.specs.Sum.{sum_to}
use Rattle.sums.specs.NumSet.{only_in}
use Rattle.model.specs.Grid.{is_on}
use Rattle.instance.specs.File.{problem}
use Rattle.rules.specs.Gridded.{states}
use Rattle.rules.proofs.weekly.week_output.Given as goal

abbrev pub invariant-loop-i : goal.invariant-loop-i
invariant-loop-i l =
    (l.i ≤ l.units) × (l.sum.0 ≤ 1000000 * l.i) × (l.sum.0 ≡ sum_to l.i (only_in (is_on (states l.grid) l.t) ((problem l.grid.file).capacity l.t)))

abbrev pub decreases-loop-i : goal.decreases-loop-i
decreases-loop-i l = l.units - l.i
