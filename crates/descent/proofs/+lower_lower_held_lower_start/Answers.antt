use Rattle.std.proofs.Common.{refl, ◌∙◌, rules, arith}
use Rattle.descent.proofs.CallLaws.{held_passes, held_unit_due, held_lowered, held_falls}
use Rattle.descent.proofs.CallLaws.{try_starts, try_recalls, try_long, try_given_up, try_fails, try_held, try_falls, try_held_done, try_table}
use Rattle.descent.proofs.CallLaws.{unit_recalls, unit_fits, unit_whole, unit_starts}
use Rattle.descent.proofs.CallLaws.{starts_few, starts_within, starts_recalls, starts_out, starts_try, starts_fall, starts_left, starts_next}
use Rattle.probe.proofs.TryLaws.{taken_dead_recalls, taken_rows}
use Rattle.descent.proofs.+lower_lower_held_lower_start.Goals as goal

pub lower-returns-then-file-unit : goal.lower-returns-then-file-unit
lower-returns-then-file-unit t c = record { answer = search unit_whole; recalls = search unit_recalls }

pub lower-starts_of-range-requires : goal.lower-starts_of-range-requires
lower-starts_of-range-requires t c = search rules

pub lower-overflow_add-v-end : goal.lower-overflow_add-v-end
lower-overflow_add-v-end t c = search unit_fits

pub lower-loop-v-init : goal.lower-loop-v-init
lower-loop-v-init t c = (search unit_starts, refl, refl)

pub lower-with_start-below-requires : goal.lower-with_start-below-requires
lower-with_start-below-requires t c = (search starts_few, search starts_within)

pub lower-lower_start-r-requires : goal.lower-lower_start-r-requires
lower-lower_start-r-requires t c = (search starts_fall, search starts_try)

-- by name: a search looks at all records for what it is not given, and takes too many steps
pub lower-returns-in_default : goal.lower-returns-in_default
lower-returns-in_default t c =
    let tried = c.lower_start-r.ensures in
    record {
      answer = starts_left _ _ _ _ _ _ _ _ _ _ _ c.loop-v.invariant.0 (search rules) _ c.with_start-below.ensures _ _ tried.answer
          c.in_default.not-NextStart;
      recalls = tried.recalls;
    }

-- by name: a search looks at all records for what it is not given, and takes too many steps
pub lower-loop-v-preserved : goal.lower-loop-v-preserved
lower-loop-v-preserved t c =
    let tried = c.lower_start-r.ensures in (
      starts_next _ _ _ _ _ _ _ _ _ _ _ c.loop-v.invariant.0 (search rules) _ c.with_start-below.ensures _ _ tried.answer _ c.in-NextStart.is
          tried.recalls,
      try_table _ _ _ _ _ tried.answer ∙ c.loop-v.invariant.1,
      search rules,
    )

pub lower-returns : goal.lower-returns
lower-returns t c = record { answer = search starts_out; recalls = search starts_recalls }

-- by name: a search looks at all records for what it is not given, and takes too many steps
pub lower_held-lower-requires : goal.lower_held-lower-requires
lower_held-lower-requires t c =
    (search held_falls, held_unit_due _ _ _ _ _ _ _ _ _ c.find_plan-found.ensures.answer c.in-Earliest.is _ c.in_state-below.ensures)

-- by name: a search looks at all records for what it is not given, and takes too many steps
pub lower_held-returns-in-Earliest-clause-answer : goal.lower_held-returns-in-Earliest-clause-answer
lower_held-returns-in-Earliest-clause-answer t c =
    held_lowered _ _ _ _ _ _ _ _ _ c.find_plan-found.ensures.answer c.in-Earliest.is _ _ _ c.in_state-below.ensures c.lower.ensures.answer

pub lower_held-returns-in_default : goal.lower_held-returns-in_default
lower_held-returns-in_default t c = record { answer = search (held_passes, c.in_default.not-Earliest); recalls = search rules }

pub lower_start-returns-then-st : goal.lower_start-returns-then-st
lower_start-returns-then-st t c = record { answer = search try_given_up; recalls = search try_recalls }

pub lower_start-slice_bounds-judge_start-end : goal.lower_start-slice_bounds-judge_start-end
lower_start-slice_bounds-judge_start-end t c = search try_long

pub lower_start-judge_start-requires : goal.lower_start-judge_start-requires
lower_start-judge_start-requires t c = (search try_starts, search rules, search rules)

pub lower_start-placed_rows-out-requires : goal.lower_start-placed_rows-out-requires
lower_start-placed_rows-out-requires t c = search taken_rows

-- by name: a search looks at all records for what it is not given, and takes too many steps
pub lower_start-lower_held-requires : goal.lower_start-lower_held-requires
lower_start-lower_held-requires t c =
    let holds = c.in-Ok.is in (
      try_falls _ _ _ _ _ _ _ c.requires _ _ _ c.judge_start.ensures _ holds _ (omega arith),
      try_held _ _ _ _ _ _ _ c.requires _ _ _ c.judge_start.ensures _ holds _ c.placed_rows-out.ensures,
    )

-- by name: a search looks at all records for what it is not given, and takes too many steps
pub lower_start-returns-in-Err : goal.lower_start-returns-in-Err
lower_start-returns-in-Err t c =
    record {
      answer = try_fails _ _ _ _ _ _ _ c.requires _ _ _ c.judge_start.ensures _ _ c.in-Err.is c.ended-in-Err.ensures;
      recalls = search taken_dead_recalls;
    }

-- by name: a search looks at all records for what it is not given, and takes too many steps
pub lower_start-returns-in-Ok : goal.lower_start-returns-in-Ok
lower_start-returns-in-Ok t c =
    record {
      answer = try_held_done _ _ _ _ _ _ _ c.requires _ _ _ c.judge_start.ensures _ c.in-Ok.is _ _ c.lower_held.ensures.answer;
      recalls = c.lower_held.ensures.recalls;
    }
