-- `instance::run_output` meets its contract: the sum so far is that of the first units.
-- Assumes nothing.
use Rattle.std.proofs.Common.{◌-◌, ◌*◌, ◌≤◌, ◌≡◌}
use Rattle.sums.specs.Sum.{sum_to}
use Rattle.sums.specs.NumSet.{has, only_in}
use Rattle.model.specs.Words.{problem_of}
use Rattle.instance.proofs.file.File.run_output.Given as goal

abbrev pub invariant-loop-i : goal.invariant-loop-i
invariant-loop-i l =
    (l.i ≤ l.units) × (l.sum.0 ≤ 1000000 * l.i) × (l.sum.0 ≡ sum_to l.i (only_in (has l.run) ((problem_of l.self.words.now).capacity l.t)))

abbrev pub decreases-loop-i : goal.decreases-loop-i
decreases-loop-i l = l.units - l.i
