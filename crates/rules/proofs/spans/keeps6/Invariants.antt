-- `rules::spans::keeps6` meets its contract: every unit before the loop's keeps (6).
-- Assumes nothing.
use Rattle.std.proofs.Common.{◌-◌, ◌≤◌, ◌≡◌, true}
use Rattle.sums.specs.Range.{all_to}
use Rattle.model.specs.Rules.{unit6}
use Rattle.instance.specs.File.{problem}
use Rattle.rules.specs.Gridded.{states}
use Rattle.rules.proofs.spans.keeps6.Given as goal

abbrev pub invariant-overhauls : goal.invariant-overhauls
invariant-overhauls l =
    (l.ok ≡ true) × (l.i ≤ l.units) × (all_to l.i (unit6 (problem l.grid.file) (states l.grid)) ≡ true)

abbrev pub decreases-overhauls : goal.decreases-overhauls
decreases-overhauls l = l.units - l.i
