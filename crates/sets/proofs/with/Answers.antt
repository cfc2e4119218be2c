-- `sets::with` meets its contract: what `|` and `<<` do to the bits.
-- Assumes nothing.
use Rattle.sets.proofs.BitLaws.{with_has}
use Rattle.sets.proofs.with.Goals as goal

pub returns : goal.returns
returns c = search with_has
