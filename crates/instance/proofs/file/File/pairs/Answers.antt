-- `instance::pairs` meets its contract: what stands between the costs and the end word.
-- Assumes nothing.
use Rattle.instance.proofs.FigureLaws.{pairs_at, pairs_most}
use Rattle.instance.proofs.file.File.pairs.Goals as goal

pub returns : goal.returns
returns c = (search pairs_at, search pairs_most)
