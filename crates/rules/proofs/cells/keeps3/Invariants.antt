-- `rules::cells::keeps3` meets its contract: every cell so far keeps the formula, and a breach breaks it for good.
-- Assumes nothing.
use Rattle.std.proofs.Common.{◌-◌, ◌≤◌, ◌<◌, ◌≡◌, true}
use Rattle.sums.specs.Range.{all_to, all_table}
use Rattle.model.specs.Rules.{ok3}
use Rattle.instance.specs.File.{problem}
use Rattle.rules.specs.Gridded.{states}
use Rattle.rules.proofs.cells.keeps3.Given as goal

abbrev pub invariant-loop-i : goal.invariant-loop-i
invariant-loop-i l =
    (l.ok ≡ true) × (l.i ≤ l.units) × (l.t < l.weeks) × (all_table l.t l.units (ok3 (problem l.grid.file) (states l.grid)) ≡ true)
    × (all_to l.i (ok3 (problem l.grid.file) (states l.grid) l.t) ≡ true)

abbrev pub decreases-loop-i : goal.decreases-loop-i
decreases-loop-i l = l.units - l.i

abbrev pub invariant-late : goal.invariant-late
invariant-late l =
    (l.ok ≡ true) × (l.t ≤ l.weeks) × (all_table l.t l.units (ok3 (problem l.grid.file) (states l.grid)) ≡ true)

abbrev pub decreases-late : goal.decreases-late
decreases-late l = l.weeks - l.t
