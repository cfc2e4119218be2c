-- `rules::weekly::week_out` meets its contract: the count so far is that of the first units.
-- Assumes nothing.
use Rattle.std.proofs.Common.{◌-◌, ◌≤◌, ◌≡◌}
use Rattle.sums.specs.Sum.{sum_to, counts_one}
use Rattle.sums.specs.NumSet.{only_in}
use Rattle.model.specs.Grid.{is_maint}
use Rattle.rules.specs.Gridded.{states}
use Rattle.rules.proofs.weekly.week_out.Given as goal

abbrev pub invariant-loop-i : goal.invariant-loop-i
invariant-loop-i l =
    (l.i ≤ l.units) × (l.sum ≤ l.i) × (l.sum ≡ sum_to l.i (only_in (is_maint (states l.grid) l.t) counts_one))

abbrev pub decreases-loop-i : goal.decreases-loop-i
decreases-loop-i l = l.units - l.i
