-- `farkas::shows_none` meets its contract: overhauls and weeks that come to more than all prices leave no schedule.
-- Assumes nothing.
use Rattle.farkas.proofs.TestLaws.{test_none}
use Rattle.farkas.proofs.shows_none.Goals as goal

pub returns : goal.returns
returns c = search test_none
