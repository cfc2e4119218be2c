-- `states::rating::rate_at` meets its contract: what the places so far count for, and a rate in its range.
-- Assumes nothing.
use Rattle.std.proofs.Common.{◌*◌, ◌≤◌}
use Rattle.states.specs.SearchTables.{MOST_CAP, MOST_COST}
use Rattle.states.proofs.rating.rate_at.Given as goal

abbrev pub invariant-loop : goal.invariant-loop
invariant-loop l = (l.given ≤ MOST_CAP * l.counter) × (l.rate ≤ MOST_COST)
