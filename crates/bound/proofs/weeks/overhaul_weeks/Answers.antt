-- `bound::weeks::overhaul_weeks` meets its contract: a permitted start and its weeks.
-- Assumes nothing.
use Rattle.bound.proofs.TestLaws.{permitted_unit, permitted_few, permitted_some, weeks_of, weeks_fit}
use Rattle.bound.proofs.weeks.overhaul_weeks.Goals as goal

pub bounds-starts-j : goal.bounds-starts-j
bounds-starts-j c = search permitted_few

pub overflow_sub-first : goal.overflow_sub-first
overflow_sub-first c = search permitted_some

pub duration-weeks-requires : goal.duration-weeks-requires
duration-weeks-requires c = search permitted_unit

pub overflow_add-result : goal.overflow_add-result
overflow_add-result c = search weeks_fit

pub returns : goal.returns
returns c = search weeks_of
