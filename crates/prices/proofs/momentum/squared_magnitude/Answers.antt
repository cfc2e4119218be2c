-- `prices::momentum::squared_magnitude` meets its contract: the square of a number that is small.
-- Assumes nothing.
use Rattle.prices.proofs.RangeLaws.{square_fits, square_most}
use Rattle.prices.proofs.momentum.squared_magnitude.Goals as goal

pub overflow_mul-result : goal.overflow_mul-result
overflow_mul-result c = search square_fits

pub returns : goal.returns
returns c = search square_most
