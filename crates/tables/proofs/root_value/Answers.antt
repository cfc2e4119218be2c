-- `tables::root_value` meets its contract: the word at the definition's place.
-- Assumes nothing.
use Rattle.std.proofs.Common.{rules}
use Rattle.tables.specs.Tables.{root_in}
use Rattle.tables.proofs.root_value.Goals as goal

pub returns : goal.returns
unfolding root_in
returns c = search rules
