-- `block::put` meets its contract: the block from its place on.
-- Assumes nothing.
use Rattle.block.proofs.BlockLaws.{block_put}
use Rattle.block.proofs.put.Goals as goal

pub returns : goal.returns
returns c = search block_put
