-- `decoder::stages::kind_floor` meets its contract: what the division cuts off is the value.
-- Assumes nothing.
use Rattle.model.specs.Words.{kind_of}
use Rattle.std.proofs.Common.{rules}
use Rattle.decoder.proofs.stages.kind_floor.Goals as goal

pub returns : goal.returns
unfolding kind_of
returns c = search rules
