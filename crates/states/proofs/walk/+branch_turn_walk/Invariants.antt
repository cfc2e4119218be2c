-- `states::walk::branch`, `turn` and `walk`, which call each other, meet their contracts: the states of the highest place so far, tried or passed over,
-- leave a lower bound for their choices; the places left fall.
-- Assumes nothing.
use Rattle.std.proofs.Common.{ℕ, ◌+◌, ◌*◌, ◌≤◌, ◌<◌, slice_index_or}
use Rattle.sums.specs.NumSet.{has}
use Rattle.states.specs.Choices.{StateHeld}
use Rattle.states.specs.SearchTables.{places_of}
use Rattle.states.specs.declared.PlaceState.TheVariants.{On}
use Rattle.states.proofs.walk.+branch_turn_walk.Given as goal

abbrev pub decreases-branch : goal.decreases-branch
decreases-branch l = 3 * l.i + 3

abbrev pub decreases-turn : goal.decreases-turn
decreases-turn l = 3 * l.k + 1

abbrev pub decreases-walk : goal.decreases-walk
decreases-walk l = 3 * l.k + 2

abbrev pub invariant-turn-loop-st : goal.invariant-turn-loop-st
invariant-turn-loop-st l = record {
  less : l.least.best ≤ l.fn.low.best;
  tried : (n : ℕ) → n < l.st-index
      → StateHeld (places_of l.costs l.a.shut) l.top l.y.need l.y.crews (has l.y.bar) l.y.score l.least.best (slice_index_or l.st-items n On);
}
