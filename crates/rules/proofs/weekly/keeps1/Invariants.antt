-- `rules::weekly::keeps1` meets its contract: every week so far keeps the formula, and a breach breaks it for good.
-- Assumes nothing.
use Rattle.std.proofs.Common.{◌-◌, ◌≤◌, ◌≡◌, true}
use Rattle.sums.specs.Range.{all_to}
use Rattle.model.specs.Rules.{ok1}
use Rattle.instance.specs.File.{problem}
use Rattle.rules.specs.Gridded.{states}
use Rattle.rules.proofs.weekly.keeps1.Given as goal

abbrev pub invariant-demand : goal.invariant-demand
invariant-demand l =
    (l.ok ≡ true) × (l.t ≤ l.weeks) × (all_to l.t (ok1 (problem l.grid.file) (states l.grid)) ≡ true)

abbrev pub decreases-demand : goal.decreases-demand
decreases-demand l = l.weeks - l.t
