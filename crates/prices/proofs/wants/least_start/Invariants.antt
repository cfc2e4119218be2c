-- `prices::wants::least_start` meets its contract: costs so far are no more than the first and a week for each turn.
-- Assumes nothing.
use Rattle.std.proofs.Common.{◌+◌, ◌*◌, ◌≤◌}
use Rattle.tables.specs.Tables.{MOST_PRICE}
use Rattle.prices.specs.Ranges.{MOST_FIRST_COST, MOST_UNIT_COST}
use Rattle.prices.proofs.wants.least_start.Given as goal

abbrev pub invariant-loop-s : goal.invariant-loop-s
invariant-loop-s l =
    (l.last + l.duration ≤ l.file.layout.weeks + 1) × (1 ≤ l.s) × (l.file.layout.weeks ≤ 52) × (l.cost.0 ≤ MOST_FIRST_COST + (500000 + MOST_PRICE) * l.s)
    × (l.least.cost.0 ≤ MOST_UNIT_COST) × (l.least.start ≤ 52)
