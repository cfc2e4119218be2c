-- `dual::gain` meets its contract: the difference of the two words.
-- Assumes nothing.
use Rattle.std.proofs.Common.{rules}
use Rattle.dual.proofs.BlameLaws.{gain_at}
use Rattle.dual.proofs.gain.Goals as goal

pub returns : goal.returns
returns c = (search gain_at, search rules)
