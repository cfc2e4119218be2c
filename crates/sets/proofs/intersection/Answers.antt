-- `sets::intersection` meets its contract: what `&` does to the bits.
-- Assumes nothing.
use Rattle.sets.proofs.BitLaws.{and_has}
use Rattle.sets.proofs.intersection.Goals as goal

pub returns : goal.returns
returns c = search and_has
