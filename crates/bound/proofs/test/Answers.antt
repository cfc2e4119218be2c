-- `bound::test` meets its contract: the start's cost, its weeks, and the bound weighed.
-- Assumes nothing.
use Rattle.std.proofs.Common.{rules}
use Rattle.bound.proofs.JudgeLaws.{start_bounded, start_due, week_blames, weighing}
use Rattle.bound.proofs.test.Goals as goal

pub with_start-started-requires : goal.with_start-started-requires
with_start-started-requires c = search start_bounded

pub test_weeks-requires : goal.test_weeks-requires
test_weeks-requires c = search start_due

pub returns-in_err-total-clause-answer : goal.returns-in_err-total-clause-answer
returns-in_err-total-clause-answer c = search (rules, week_blames, c.in_err-total.ensures)

pub weigh-requires : goal.weigh-requires
weigh-requires c = search (weighing, c.in_ok-total.ensures)
