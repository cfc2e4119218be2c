-- `dual::priced_cost` meets its contract: OFF in all weeks is taken off again in those of the overhaul.
-- Assumes nothing.
use Rattle.dual.proofs.CostLaws.{priced_is, priced_small}
use Rattle.dual.proofs.CostLaws.{priced_is}
use Rattle.dual.proofs.priced_cost.Goals as goal

pub returns : goal.returns
returns c = (search priced_is, search priced_small)
