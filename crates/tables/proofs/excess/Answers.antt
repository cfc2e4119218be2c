-- `tables::excess` meets its contract: the word at the definition's place.
-- Assumes nothing.
use Rattle.std.proofs.Common.{rules}
use Rattle.tables.specs.Tables.{excess_in}
use Rattle.tables.proofs.excess.Goals as goal

pub returns : goal.returns
unfolding excess_in
returns c = search rules
