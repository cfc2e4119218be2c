-- `bound::row_count` meets its contract: as the tally of the word has it.
-- Assumes nothing.
use Rattle.bound.proofs.RowLaws.{row_count_of}
use Rattle.bound.proofs.row_count.Goals as goal

pub returns : goal.returns
returns c = search row_count_of
