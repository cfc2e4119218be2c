-- `prices::step::step_of` meets its contract: the aim and the reach are in range, and a quotient is no more than what is divided.
-- Assumes nothing.
use Rattle.prices.proofs.RangeLaws.{aim_fits, step_most}
use Rattle.prices.proofs.step.step_of.Goals as goal

pub overflow_mul-result : goal.overflow_mul-result
overflow_mul-result c = search aim_fits

pub returns : goal.returns
returns c = search step_most
