-- `states::nodes::ordered` meets its contract: every order has every state.
-- Assumes nothing.
use Rattle.std.proofs.Common.{refl, arith}
use Rattle.states.proofs.StepLaws.{each_state}
use Rattle.states.proofs.nodes.ordered.Goals as goal

pub returns-in-true-default-true : goal.returns-in-true-default-true
returns-in-true-default-true c = each_state _ 0 1 2 (omega arith) (omega arith) (omega arith) refl refl refl

pub returns-in-true-true-false : goal.returns-in-true-true-false
returns-in-true-true-false c = each_state _ 0 2 1 (omega arith) (omega arith) (omega arith) refl refl refl

pub returns-in-true-false-false : goal.returns-in-true-false-false
returns-in-true-false-false c = each_state _ 1 2 0 (omega arith) (omega arith) (omega arith) refl refl refl

pub returns-in-false-true-default : goal.returns-in-false-true-default
returns-in-false-true-default c = each_state _ 1 0 2 (omega arith) (omega arith) (omega arith) refl refl refl

pub returns-in-false-false-true : goal.returns-in-false-false-true
returns-in-false-false-true c = each_state _ 2 0 1 (omega arith) (omega arith) (omega arith) refl refl refl

pub returns-in-false-false-false : goal.returns-in-false-false-false
returns-in-false-false-false c = each_state _ 2 1 0 (omega arith) (omega arith) (omega arith) refl refl refl
