-- `prices::momentum::update_unit` meets its contract: every push so far is in range.
-- Assumes nothing.
use Rattle.std.proofs.Common.{◌≤◌, ◌<◌}
use Rattle.sums.specs.Table.{AtMost}
use Rattle.prices.specs.Ranges.{MOST_PUSH}
use Rattle.prices.proofs.momentum.update_unit.Given as goal

abbrev pub invariant-loop-t : goal.invariant-loop-t
invariant-loop-t l = (l.t-end ≤ 52) × (l.i < 16) × (l.duration ≤ 52) × AtMost MOST_PUSH l.push
