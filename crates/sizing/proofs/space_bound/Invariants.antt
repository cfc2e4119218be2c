-- `sizing::space_bound` meets its contract: power and sum are the true ones, cut off.
-- Assumes nothing.
use Rattle.std.proofs.Common.{◌-◌, ◌^◌, ◌≤◌, min, ◌≡◌}
use Rattle.sums.specs.Sum.{sum_to}
use Rattle.model.specs.Prefix.{next_power, MOST_FIGURE}
use Rattle.sizing.proofs.space_bound.Given as goal

abbrev pub invariant-loop-j : goal.invariant-loop-j
invariant-loop-j l =
    (l.j ≤ l.u) × (l.power ≤ MOST_FIGURE) × (l.sum ≤ MOST_FIGURE) × (l.power ≡ min MOST_FIGURE (l.w ^ l.j)) × (l.sum ≡ min MOST_FIGURE (sum_to l.j (next_power l.w)))

abbrev pub decreases-loop-j : goal.decreases-loop-j
decreases-loop-j l = l.u - l.j
