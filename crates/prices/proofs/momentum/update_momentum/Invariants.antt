-- `prices::momentum::update_momentum` meets its contract: the pushes of the units so far are in range.
-- Assumes nothing.
use Rattle.sums.specs.Table.{AtMost}
use Rattle.prices.specs.Ranges.{MOST_PUSH}
use Rattle.prices.proofs.momentum.update_momentum.Given as goal

abbrev pub invariant-loop-i : goal.invariant-loop-i
invariant-loop-i l = AtMost MOST_PUSH l.push
