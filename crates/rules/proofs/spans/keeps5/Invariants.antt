-- `rules::spans::keeps5` meets its contract: every unit before the loop's keeps (5).
-- Assumes nothing.
use Rattle.std.proofs.Common.{◌-◌, ◌≤◌, ◌≡◌, true}
use Rattle.sums.specs.Range.{all_to}
use Rattle.model.specs.Rules.{unit5}
use Rattle.instance.specs.File.{problem}
use Rattle.rules.specs.Gridded.{states}
use Rattle.rules.proofs.spans.keeps5.Given as goal

abbrev pub invariant-long : goal.invariant-long
invariant-long l =
    (l.ok ≡ true) × (l.i ≤ l.units) × (all_to l.i (unit5 (problem l.grid.file) (states l.grid)) ≡ true)

abbrev pub decreases-long : goal.decreases-long
decreases-long l = l.units - l.i
