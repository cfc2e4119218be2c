-- `commitment::full_least` meets its contract: the least score tells the least cost.
-- Assumes nothing.
use Rattle.commitment.proofs.ScoreLaws.{found_cost, cost_small}
use Rattle.commitment.proofs.full_least.Goals as goal

pub returns : goal.returns
returns c = (search found_cost, search cost_small)
