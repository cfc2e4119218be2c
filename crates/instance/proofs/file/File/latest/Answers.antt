-- `instance::latest` meets its contract: the lower part of the unit's window is read.
-- Assumes nothing.
use Rattle.instance.proofs.FigureLaws.{latest_at, latest_some, latest_most}
use Rattle.instance.proofs.file.File.latest.Goals as goal

pub returns : goal.returns
returns c = (search latest_at, search latest_some, search latest_most)
