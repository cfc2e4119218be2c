-- `quotes::filed_upkeep` meets its contract: by cases of the unit.
-- Assumes nothing.
use Rattle.quotes.proofs.QuoteLaws.{over_zero, over_beyond, over_some}
use Rattle.quotes.proofs.filed_upkeep.Goals as goal

pub returns-then-unit-eq0 : goal.returns-then-unit-eq0
returns-then-unit-eq0 c = search over_zero

pub returns-then-file-unit : goal.returns-then-file-unit
returns-then-file-unit c = search over_beyond

pub returns : goal.returns
returns c = search over_some
