-- `tables::partners` meets its contract: the word at the definition's place.
-- Assumes nothing.
use Rattle.std.proofs.Common.{rules}
use Rattle.tables.specs.Tables.{partners_in}
use Rattle.tables.proofs.partners.Goals as goal

pub returns : goal.returns
unfolding partners_in
returns c = search rules
