-- `rules::spans::keeps4` meets its contract: every unit before the loop's keeps (4), and that one is in maintenance from its first week of it so far.
-- Assumes nothing.
use Rattle.std.proofs.Common.{◌-◌, ◌≤◌, ◌<◌, ◌≡◌, true}
use Rattle.sums.specs.Range.{all_table}
use Rattle.model.specs.Rules.{unit4}
use Rattle.instance.specs.File.{problem}
use Rattle.rules.specs.Gridded.{states}
use Rattle.rules.proofs.SpanLaws.{OutFrom}
use Rattle.rules.proofs.spans.keeps4.Given as goal

abbrev pub invariant-loop-t : goal.invariant-loop-t
invariant-loop-t l =
    (l.ok ≡ true) × (l.i < l.units) × (l.first ≤ l.t) × (all_table l.i l.grid.file.layout.weeks (unit4 (problem l.grid.file) (states l.grid)) ≡ true)
    × OutFrom (states l.grid) l.i l.first l.t

abbrev pub decreases-loop-t : goal.decreases-loop-t
decreases-loop-t l = l.end - l.t

abbrev pub invariant-whole : goal.invariant-whole
invariant-whole l =
    (l.ok ≡ true) × (l.i ≤ l.units) × (all_table l.i l.grid.file.layout.weeks (unit4 (problem l.grid.file) (states l.grid)) ≡ true)

abbrev pub decreases-whole : goal.decreases-whole
decreases-whole l = l.units - l.i
