-- `commitment::full_cost` meets its contract: a sum over all units.
-- Assumes nothing.
use Rattle.std.proofs.Common.{◌-◌, ◌*◌, ◌≤◌, ◌≡◌}
use Rattle.sums.specs.Sum.{sum_to}
use Rattle.model.specs.Commitment.{line_cost}
use Rattle.instance.specs.File.{problem}
use Rattle.commitment.proofs.full_cost.Given as goal

abbrev pub invariant-loop-i : goal.invariant-loop-i
invariant-loop-i l =
    (l.i ≤ l.units) × (l.sum.0 ≤ 250000 * l.i) × (l.sum.0 ≡ sum_to l.i (line_cost (problem l.file) l.t l.run))

abbrev pub decreases-loop-i : goal.decreases-loop-i
decreases-loop-i l = l.units - l.i
