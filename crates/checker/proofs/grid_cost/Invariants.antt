-- `checker::grid_cost` meets its contract: the sum so far is that of the first weeks.
-- Assumes nothing.
use Rattle.std.proofs.Common.{◌-◌, ◌*◌, ◌≤◌, ◌≡◌}
use Rattle.sums.specs.Sum.{sum_to}
use Rattle.model.specs.Rules.{week_cost}
use Rattle.instance.specs.File.{problem}
use Rattle.rules.specs.Gridded.{states}
use Rattle.checker.proofs.grid_cost.Given as goal

abbrev pub invariant-loop-t : goal.invariant-loop-t
invariant-loop-t l =
    (l.t ≤ l.grid.file.layout.weeks) × (l.sum.0 ≤ 4294967296 * l.t) × (l.sum.0 ≡ sum_to l.t (week_cost (problem l.grid.file) (states l.grid)))

abbrev pub decreases-loop-t : goal.decreases-loop-t
decreases-loop-t l = l.grid.file.layout.weeks - l.t
