-- `rules::weekly::demand_met` meets its contract: the demand is at most the output.
-- Assumes nothing.
use Rattle.rules.proofs.CellLaws.{demand_met}
use Rattle.rules.proofs.weekly.demand_met.Goals as goal

pub returns : goal.returns
returns c = search demand_met
