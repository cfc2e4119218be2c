-- `cover::ratio` meets its contract: a quotient is no larger than what is divided.
-- Assumes nothing.
use Rattle.std.proofs.Common.{div-le_self}
use Rattle.cover.proofs.ratio.Goals as goal

pub returns : goal.returns
returns c = div-le_self _ _
