-- `rules::cells::not_early` meets its contract: any state but MAINT will do, and MAINT from the earliest start on.
-- Assumes nothing.
use Rattle.rules.proofs.CellLaws.{early_other, early_maint}
use Rattle.rules.proofs.cells.not_early.Goals as goal

pub returns-then-state-ne2 : goal.returns-then-state-ne2
returns-then-state-ne2 c = search early_other

pub returns : goal.returns
returns c = search early_maint
