-- `states::totals::gained` meets its contract: product and sum fit.
-- Assumes nothing.
use Rattle.std.proofs.Common.{rules}
use Rattle.states.proofs.RangeLaws.{count_lost, gained_fits}
use Rattle.states.proofs.totals.gained.Goals as goal

pub overflow_mul-rate : goal.overflow_mul-rate
overflow_mul-rate c = search (rules, count_lost)

pub overflow_add-rate : goal.overflow_add-rate
overflow_add-rate c = search (rules, gained_fits)
