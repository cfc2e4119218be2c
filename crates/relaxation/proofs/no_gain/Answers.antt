-- `relaxation::no_gain` meets its contract: a best of 0, or the sum that is compared.
-- Assumes nothing.
use Rattle.relaxation.proofs.LeftLaws.{gain_none, gain_zero}
use Rattle.relaxation.proofs.no_gain.Goals as goal

pub returns-then-best-eq0 : goal.returns-then-best-eq0
returns-then-best-eq0 c = search gain_zero

pub returns : goal.returns
returns c = search gain_none
