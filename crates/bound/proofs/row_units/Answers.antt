-- `bound::row_units` meets its contract: as the tally of the word has it.
-- Assumes nothing.
use Rattle.bound.proofs.RowLaws.{row_units_of}
use Rattle.bound.proofs.row_units.Goals as goal

pub returns : goal.returns
returns c = search row_units_of
