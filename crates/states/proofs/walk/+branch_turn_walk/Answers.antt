use Rattle.std.proofs.Common.{rules, arith}
use Rattle.states.proofs.StepLaws.{tried_next, floor_turn}
use Rattle.states.proofs.walk.+branch_turn_walk.Goals as goal

pub branch-returns-in-None-clause-answer : goal.branch-returns-in-None-clause-answer
branch-returns-in-None-clause-answer t c = c.in-None.ensures.held _

pub turn-loop-st-preserved : goal.turn-loop-st-preserved
turn-loop-st-preserved t c = record { less = search rules; tried = search tried_next }

pub turn-returns-clause-answer : goal.turn-returns-clause-answer
turn-returns-clause-answer t c =
    floor_turn _ _ _ _ _ _ _ c.order_at-st-items.result (search rules) (search rules) (λ n l. c.loop-st.invariant.tried n (omega arith))
