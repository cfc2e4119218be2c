-- `rules::cells::not_late` meets its contract: any state but MAINT will do, and MAINT before the latest start's end.
-- Assumes nothing.
use Rattle.rules.proofs.CellLaws.{late_other, late_maint}
use Rattle.rules.proofs.cells.not_late.Goals as goal

pub returns-then-state-ne2 : goal.returns-then-state-ne2
returns-then-state-ne2 c = search late_other

pub returns : goal.returns
returns c = search late_maint
