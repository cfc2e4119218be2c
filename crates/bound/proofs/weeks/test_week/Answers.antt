-- `bound::weeks::test_week` meets its contract: the excluded pairs, then the tests of all who are out.
-- Assumes nothing.
use Rattle.std.proofs.Common.{rules}
use Rattle.bound.proofs.RowLaws.{tally_read}
use Rattle.bound.proofs.WeekLaws.{pair_shuts, week_tested}
use Rattle.bound.proofs.weeks.test_week.Goals as goal

pub returns-then-both-ne0 : goal.returns-then-both-ne0
returns-then-both-ne0 c = record { answer = search pair_shuts; recalls = search rules }

pub with_unit-requires : goal.with_unit-requires
with_unit-requires c = record { t_lt_weeks = (search rules, search rules); tallies = search tally_read }

pub returns : goal.returns
returns c = record { answer = search week_tested; recalls = search rules }
