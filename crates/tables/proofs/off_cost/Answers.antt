-- `tables::off_cost` meets its contract: the word at the definition's place.
-- Assumes nothing.
use Rattle.std.proofs.Common.{rules}
use Rattle.tables.specs.Tables.{off_in}
use Rattle.tables.proofs.off_cost.Goals as goal

pub returns : goal.returns
unfolding off_in
returns c = search rules
