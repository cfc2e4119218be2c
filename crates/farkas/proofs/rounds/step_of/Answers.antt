-- `farkas::rounds::step_of` meets its contract: a step is no longer than the price and 1.
-- Assumes nothing.
use Rattle.std.proofs.Common.{rules}
use Rattle.farkas.proofs.TestLaws.{step_fits, step_small, step_word}
use Rattle.farkas.proofs.rounds.step_of.Goals as goal

pub overflow_mul-result : goal.overflow_mul-result
overflow_mul-result c = search (rules, step_fits)

pub overflow_add-result : goal.overflow_add-result
overflow_add-result c = search step_word

pub returns : goal.returns
returns c = search step_small
