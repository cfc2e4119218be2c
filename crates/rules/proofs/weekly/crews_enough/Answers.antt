-- `rules::weekly::crews_enough` meets its contract: the count is at most the crews.
-- Assumes nothing.
use Rattle.rules.proofs.CellLaws.{crews_enough}
use Rattle.rules.proofs.weekly.crews_enough.Goals as goal

pub returns : goal.returns
returns c = search crews_enough
