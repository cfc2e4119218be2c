-- `instance::crews` meets its contract: the third word is read.
-- Assumes nothing.
use Rattle.instance.proofs.FigureLaws.{crews_at, crews_some, crews_most}
use Rattle.instance.proofs.file.File.crews.Goals as goal

pub returns : goal.returns
returns c = (search crews_at, search crews_some, search crews_most)
