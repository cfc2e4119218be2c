-- `prices::wants::choose_starts` meets its contract: the sum so far has at most 2^34 for each unit.
-- Assumes nothing.
use Rattle.std.proofs.Common.{◌*◌, ◌≤◌}
use Rattle.prices.specs.Ranges.{MOST_UNIT_COST}
use Rattle.prices.proofs.wants.choose_starts.Given as goal

abbrev pub invariant-loop-i : goal.invariant-loop-i
invariant-loop-i l = (l.file.layout.units ≤ 16) × (l.sum.0 ≤ MOST_UNIT_COST * l.i)
