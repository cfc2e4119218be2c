-- `dual::cost_above` meets its contract: no permitted start costs less than the least.
-- Assumes nothing.
use Rattle.dual.proofs.CostLaws.{least_above, least_rest}
use Rattle.dual.proofs.cost_above.Goals as goal

pub overflow_sub-result : goal.overflow_sub-result
overflow_sub-result c = search least_above

pub returns : goal.returns
returns c = search least_rest
