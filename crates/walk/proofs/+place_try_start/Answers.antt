use Rattle.std.proofs.Common.{refl, rules, arith}
use Rattle.walk.proofs.CallLaws.{place_leaf, place_weighed, place_fits, place_starts, place_long}
use Rattle.walk.proofs.CallLaws.{starts_few, starts_small, starts_within, starts_try, starts_fall}
use Rattle.walk.proofs.CallLaws.{starts_left, starts_next, starts_used, starts_most, starts_limit, starts_recalls, starts_done}
use Rattle.walk.proofs.CallLaws.{try_recalls, try_long, try_fits, try_stops}
use Rattle.walk.proofs.CallLaws.{taken_dead_recalls, taken_rows, taken_fails, taken_places, taken_falls, taken_placed}
use Rattle.walk.proofs.+place_try_start.Goals as goal

pub place-close_leaf-requires : goal.place-close_leaf-requires
place-close_leaf-requires t c = search place_leaf

pub place-returns-then-file-node : goal.place-returns-then-file-node
place-returns-then-file-node t c = record { answer = search place_weighed; recalls = search rules }

pub place-starts_of-range-requires : goal.place-starts_of-range-requires
place-starts_of-range-requires t c = search rules

pub place-overflow_add-v-end : goal.place-overflow_add-v-end
place-overflow_add-v-end t c = search place_fits

pub place-loop-v-init : goal.place-loop-v-init
place-loop-v-init t c = (search place_starts, refl, refl)

pub place-with_start-next-requires : goal.place-with_start-next-requires
place-with_start-next-requires t c = (search starts_few, search starts_within)

pub place-try_start-step-requires : goal.place-try_start-step-requires
place-try_start-step-requires t c = (search starts_fall, search starts_try)

pub place-turn_after-requires : goal.place-turn_after-requires
place-turn_after-requires t c = search starts_small

-- a search looks at all records for what it is not given, and takes too many steps; a line between the call of `turn_after` and here moves the path
pub place-returns-in_default-clause-answer : goal.place-returns-in_default-clause-answer
place-returns-in_default-clause-answer t c = search (starts_left, c.turn_after.ensures)

-- the same, from `with_start` on
pub place-loop-v-preserved : goal.place-loop-v-preserved
place-loop-v-preserved t c = (search (starts_next, c.with_start-next.ensures, c.turn_after.ensures), search place_long, search rules)

pub place-note_dead_end-noted-requires : goal.place-note_dead_end-noted-requires
place-note_dead_end-noted-requires t c = (search starts_used, search starts_most, search starts_limit, search rules)

pub place-returns : goal.place-returns
place-returns t c = record { answer = search starts_done; recalls = search starts_recalls }

pub try_start-overflow_add-node : goal.try_start-overflow_add-node
try_start-overflow_add-node t c = search try_fits

pub try_start-returns-then-st : goal.try_start-returns-then-st
try_start-returns-then-st t c = record { answer = search try_stops; recalls = search try_recalls }

pub try_start-slice_bounds-judge_start-end : goal.try_start-slice_bounds-judge_start-end
try_start-slice_bounds-judge_start-end t c = search try_long

pub try_start-placed_rows-out-requires : goal.try_start-placed_rows-out-requires
try_start-placed_rows-out-requires t c = search taken_rows

-- the same, from `judge_start` on; omega reads the measure at entry from the record of that call
pub try_start-place-requires : goal.try_start-place-requires
try_start-place-requires t c =
    let taken = c.judge_start.ensures in
    let holds = c.in-Ok.is in
    (taken_falls _ _ _ _ _ _ _ _ _ _ taken _ holds _ (omega arith), taken_places _ _ _ _ _ _ _ _ _ _ taken _ holds _ (search rules))

pub try_start-returns-in-Err : goal.try_start-returns-in-Err
try_start-returns-in-Err t c = record { answer = search taken_fails; recalls = search taken_dead_recalls }

pub try_start-returns-in-Ok : goal.try_start-returns-in-Ok
try_start-returns-in-Ok t c = record { answer = search taken_placed; recalls = search rules }
