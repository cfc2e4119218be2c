-- `instance::maint_cost` meets its contract: the word at the cell of the maintenance costs is read.
-- Assumes nothing.
use Rattle.instance.proofs.FigureLaws.{maint_at, maint_most}
use Rattle.instance.proofs.file.File.maint_cost.Goals as goal

pub returns : goal.returns
returns c = (search maint_at, search maint_most)
