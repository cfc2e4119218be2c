-- `relaxation::root` meets its contract: each field by the function that made it.
-- Assumes nothing.
use Rattle.relaxation.proofs.NodeLaws.{beginning_small, begun_of}
use Rattle.relaxation.proofs.root.Goals as goal

pub add-requires : goal.add-requires
add-requires c = search beginning_small

pub returns : goal.returns
returns c = search begun_of
