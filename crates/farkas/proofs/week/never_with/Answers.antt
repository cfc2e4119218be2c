-- `farkas::week::never_with` meets its contract: the unit is looked at by what the others give.
-- Assumes nothing.
use Rattle.farkas.proofs.SumsLaws.{never_more, never_same}
use Rattle.farkas.proofs.week.never_with.Goals as goal

pub returns-then-all-add : goal.returns-then-all-add
returns-then-all-add c = search never_more

pub returns : goal.returns
returns c = search never_same
