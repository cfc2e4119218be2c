-- `dual::drop_unit` meets its contract: the bound loses what is due to the unit.
-- Assumes nothing.
use Rattle.dual.proofs.BlameLaws.{dropped_none, dropped_one}
use Rattle.dual.proofs.drop_unit.Goals as goal

pub returns-then-kept-wanted : goal.returns-then-kept-wanted
returns-then-kept-wanted c = search dropped_none

pub returns : goal.returns
returns c = search dropped_one
