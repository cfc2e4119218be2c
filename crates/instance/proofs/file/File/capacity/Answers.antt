-- `instance::capacity` meets its contract: the word at the unit's capacity is read.
-- Assumes nothing.
use Rattle.instance.proofs.FigureLaws.{capacity_at, capacity_most}
use Rattle.instance.proofs.file.File.capacity.Goals as goal

pub returns : goal.returns
returns c = (search capacity_at, search capacity_most)
