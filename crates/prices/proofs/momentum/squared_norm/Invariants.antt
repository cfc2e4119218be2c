-- `prices::momentum::squared_norm` meets its contract: the sum so far has at most the largest square for each place.
-- Assumes nothing.
use Rattle.std.proofs.Common.{◌*◌, ◌≤◌}
use Rattle.prices.specs.Ranges.{PLACES, MOST_SQUARE}
use Rattle.prices.proofs.momentum.squared_norm.Given as goal

abbrev pub invariant-loop-k : goal.invariant-loop-k
invariant-loop-k l = (l.k-end ≤ PLACES) × (l.sum ≤ MOST_SQUARE * l.k)
