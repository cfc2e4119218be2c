-- `sets::has` meets its contract: bit i is the definition's own test.
-- Assumes nothing.
use Rattle.std.proofs.Common.{refl}
use Rattle.sums.specs.NumSet.{has}
use Rattle.sets.proofs.has.Goals as goal

pub returns : goal.returns
unfolding has
returns c = refl
