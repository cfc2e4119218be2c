-- `cover::guess_output` meets its contract: the sum so far is that of the first units.
-- Assumes nothing.
use Rattle.std.proofs.Common.{◌-◌, ◌≤◌, ◌≡◌}
use Rattle.sums.specs.Sum.{sum_to}
use Rattle.sums.specs.NumSet.{only_in}
use Rattle.sums.specs.Table.{entry}
use Rattle.cover.specs.Tables.{spared}
use Rattle.cover.proofs.guess_output.Given as goal

abbrev pub invariant-loop-i : goal.invariant-loop-i
invariant-loop-i l = (l.i ≤ l.u) × (l.sum.0 ≡ sum_to l.i (only_in (spared l.out l.guess) (entry l.caps)))

abbrev pub decreases-loop-i : goal.decreases-loop-i
decreases-loop-i l = l.u - l.i
