-- `checker::week_cost` meets its contract: the sum so far is that of the first units.
-- Assumes nothing.
use Rattle.std.proofs.Common.{◌-◌, ◌*◌, ◌≤◌, ◌≡◌}
use Rattle.sums.specs.Sum.{sum_to}
use Rattle.model.specs.Words.{VALUES}
use Rattle.model.specs.Rules.{charge}
use Rattle.instance.specs.File.{problem}
use Rattle.rules.specs.Gridded.{states}
use Rattle.checker.proofs.week_cost.Given as goal

abbrev pub invariant-loop-i : goal.invariant-loop-i
invariant-loop-i l =
    (l.i ≤ l.grid.file.layout.units) × (l.sum.0 ≤ VALUES * l.i) × (l.sum.0 ≡ sum_to l.i (charge (problem l.grid.file) (states l.grid) l.t))

abbrev pub decreases-loop-i : goal.decreases-loop-i
decreases-loop-i l = l.grid.file.layout.units - l.i
