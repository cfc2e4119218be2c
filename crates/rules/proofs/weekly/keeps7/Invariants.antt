-- `rules::weekly::keeps7` meets its contract: every week so far keeps the formula, and a breach breaks it for good.
-- Assumes nothing.
use Rattle.std.proofs.Common.{◌-◌, ◌≤◌, ◌≡◌, true}
use Rattle.sums.specs.Range.{all_to}
use Rattle.model.specs.Rules.{ok7}
use Rattle.instance.specs.File.{problem}
use Rattle.rules.specs.Gridded.{states}
use Rattle.rules.proofs.weekly.keeps7.Given as goal

abbrev pub invariant-crews : goal.invariant-crews
invariant-crews l =
    (l.ok ≡ true) × (l.t ≤ l.weeks) × (all_to l.t (ok7 (problem l.grid.file) (states l.grid)) ≡ true)

abbrev pub decreases-crews : goal.decreases-crews
decreases-crews l = l.weeks - l.t
