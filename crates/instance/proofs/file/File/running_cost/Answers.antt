-- `instance::running_cost` meets its contract: the word at the cell of the running costs is read.
-- Assumes nothing.
use Rattle.instance.proofs.FigureLaws.{running_at, running_most}
use Rattle.instance.proofs.file.File.running_cost.Goals as goal

pub returns : goal.returns
returns c = (search running_at, search running_most)
