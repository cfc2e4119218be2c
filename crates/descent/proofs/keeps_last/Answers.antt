-- `descent::keeps_last` meets its contract: the starts of that unit are compared.
-- Assumes nothing.
use Rattle.descent.proofs.HeldLaws.{keeps_so, keeps_not}
use Rattle.descent.proofs.keeps_last.Goals as goal

pub returns-then-starts-j : goal.returns-then-starts-j
returns-then-starts-j c = search keeps_so

pub returns : goal.returns
returns c = search keeps_not
