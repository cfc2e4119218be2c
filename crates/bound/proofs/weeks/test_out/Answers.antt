-- `bound::weeks::test_out` meets its contract: the crews, the run, and what the week is worth.
-- Assumes nothing.
use Rattle.std.proofs.Common.{refl, rules}
use Rattle.bound.proofs.WeekLaws.{crews_shuts, demand_shuts, out_holds}
use Rattle.bound.proofs.weeks.test_out.Goals as goal

pub returns-then-crews-y : goal.returns-then-crews-y
returns-then-crews-y c = record { answer = (refl, search crews_shuts); recalls = search rules }

pub returns-then-value-ge-NO_RUN : goal.returns-then-value-ge-NO_RUN
returns-then-value-ge-NO_RUN c = record { answer = (refl, search demand_shuts); recalls = search rules }

pub returns : goal.returns
returns c = record { answer = search out_holds; recalls = search rules }
