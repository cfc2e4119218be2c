-- `tables::hard_week` meets its contract: the test of the word at the definition's place.
-- Assumes nothing.
use Rattle.std.proofs.Common.{rules}
use Rattle.tables.specs.Tables.{hard_in}
use Rattle.tables.proofs.hard_week.Goals as goal

pub returns : goal.returns
unfolding hard_in
returns c = search rules
