-- `rules::state` meets its contract: the place is the cell's.
-- Assumes nothing.
use Rattle.rules.proofs.CellLaws.{cell_read}
use Rattle.rules.proofs.grid.state.Goals as goal

pub returns : goal.returns
returns c = search cell_read
