-- `instance::demand` meets its contract: the word at the week's demand is read.
-- Assumes nothing.
use Rattle.instance.proofs.FigureLaws.{demand_at, demand_most}
use Rattle.instance.proofs.file.File.demand.Goals as goal

pub returns : goal.returns
returns c = (search demand_at, search demand_most)
