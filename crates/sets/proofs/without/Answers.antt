-- `sets::without` meets its contract: bit i is set by `|`, then cleared by `^`, and the others stay.
-- Assumes nothing.
use Rattle.sets.proofs.BitLaws.{without_has}
use Rattle.sets.proofs.without.Goals as goal

pub returns : goal.returns
returns c = search without_has
