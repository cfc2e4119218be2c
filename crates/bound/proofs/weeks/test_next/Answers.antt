-- `bound::weeks::test_next` meets its contract: one week more holds, or is a dead end.
-- Assumes nothing.
use Rattle.std.proofs.Common.{rules}
use Rattle.bound.proofs.TestLaws.{week_at, week_unit, week_in, week_long, week_bound, week_due, week_shut, week_small, week_next}
use Rattle.bound.proofs.weeks.test_next.Goals as goal

pub test_week-requires : goal.test_week-requires
test_week-requires c = (search week_at, search week_unit, search week_due, search rules)

pub returns-in_err-value-clause-answer : goal.returns-in_err-value-clause-answer
returns-in_err-value-clause-answer c = search (rules, week_shut, c.in_err-value.ensures)

pub put_value-requires : goal.put_value-requires
put_value-requires c = (search week_bound, search (week_small, c.in_ok-value.ensures), search week_in, search week_long)

pub returns-clause-answer : goal.returns-clause-answer
returns-clause-answer c = search (week_next, c.in_ok-value.ensures)
