-- `dual::try_drop` meets its contract: the unit is one of those kept, or all stay.
-- Assumes nothing.
use Rattle.dual.proofs.BlameLaws.{may_drop}
use Rattle.dual.proofs.try_drop.Goals as goal

pub drop_unit-requires : goal.drop_unit-requires
drop_unit-requires c = search may_drop
