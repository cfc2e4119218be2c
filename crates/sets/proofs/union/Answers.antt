-- `sets::union` meets its contract: what `|` does to the bits.
-- Assumes nothing.
use Rattle.sets.proofs.BitLaws.{or_has}
use Rattle.sets.proofs.union.Goals as goal

pub returns : goal.returns
returns c = search or_has
