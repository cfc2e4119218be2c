-- `bound::tallies::packed` meets its contract: the sum is the definition itself, and fits.
-- Assumes nothing.
use Rattle.std.proofs.Common.{refl}
use Rattle.bound.specs.Rows.{word_of}
use Rattle.bound.proofs.tallies.packed.Goals as goal

pub returns : goal.returns
unfolding word_of
returns c = refl
