-- `instance::duration` meets its contract: the word at the unit's duration is read.
-- Assumes nothing.
use Rattle.instance.proofs.FigureLaws.{duration_at, duration_some, duration_most}
use Rattle.instance.proofs.file.File.duration.Goals as goal

pub returns : goal.returns
returns c = (search duration_at, search duration_some, search duration_most)
