-- `nogood::start_of` meets its contract: the entry is the definition itself.
-- Assumes nothing.
use Rattle.std.proofs.Common.{rules}
use Rattle.sums.specs.Table.{entry}
use Rattle.nogood.proofs.start_of.Goals as goal

pub returns : goal.returns
unfolding entry
returns c = search rules
