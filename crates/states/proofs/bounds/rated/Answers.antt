-- `states::bounds::rated` meets its contract: products and sums fit.
-- Assumes nothing.
use Rattle.std.proofs.Common.{rules}
use Rattle.states.proofs.RangeLaws.{need_fits, score_fits, idle_fits, crews_fit, gain_fits}
use Rattle.states.proofs.bounds.rated.Goals as goal

pub overflow_mul-rate : goal.overflow_mul-rate
overflow_mul-rate c = search (rules, need_fits)

pub overflow_add-score : goal.overflow_add-score
overflow_add-score c = search (rules, score_fits)

pub overflow_add-score-2 : goal.overflow_add-score-2
overflow_add-score-2 c = search (rules, idle_fits)

pub overflow_mul-price : goal.overflow_mul-price
overflow_mul-price c = search (rules, crews_fit)

pub overflow_add-gain : goal.overflow_add-gain
overflow_add-gain c = search (rules, gain_fits)
