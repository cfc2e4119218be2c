-- `commitment::least_weight` meets its contract: the tables are those of the file, and the cover is sought among the units that are a choice.
-- Assumes nothing.
use Rattle.commitment.proofs.ScoreLaws.{weight_least}
use Rattle.commitment.proofs.least_weight.Goals as goal

pub returns : goal.returns
returns c = search weight_least
