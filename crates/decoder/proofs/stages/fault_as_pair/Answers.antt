-- `decoder::stages::fault_as_pair` meets its contract: the kind first, then the pair.
-- Assumes nothing.
use Rattle.decoder.proofs.StepLaws.{as_other, as_pair_lem}
use Rattle.decoder.proofs.stages.fault_as_pair.Goals as goal

pub returns-then-kind_of-ne10 : goal.returns-then-kind_of-ne10
returns-then-kind_of-ne10 c = search as_other

pub returns : goal.returns
returns c = search as_pair_lem
