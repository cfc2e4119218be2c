-- `tables::total` meets its contract: the word at the definition's place.
-- Assumes nothing.
use Rattle.std.proofs.Common.{rules}
use Rattle.tables.specs.Tables.{total_in}
use Rattle.tables.proofs.total.Goals as goal

pub returns : goal.returns
unfolding total_in
returns c = search rules
