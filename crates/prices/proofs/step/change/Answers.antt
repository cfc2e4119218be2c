-- `prices::step::change` meets its contract: the step and the push are in range.
-- Assumes nothing.
use Rattle.prices.proofs.RangeLaws.{change_fits, change_most}
use Rattle.prices.proofs.step.change.Goals as goal

pub overflow_mul-result : goal.overflow_mul-result
overflow_mul-result c = search change_fits

pub returns : goal.returns
returns c = search change_most
