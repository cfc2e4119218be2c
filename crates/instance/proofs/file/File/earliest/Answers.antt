-- `instance::earliest` meets its contract: the upper part of the unit's window is read.
-- Assumes nothing.
use Rattle.instance.proofs.FigureLaws.{earliest_at, earliest_some, earliest_most}
use Rattle.instance.proofs.file.File.earliest.Goals as goal

pub returns : goal.returns
returns c = (search earliest_at, search earliest_some, search earliest_most)
