-- `report::put_spent` meets its contract: the word, then the mark.
-- Assumes nothing.
use Rattle.report.proofs.LineLaws.{spent_put}
use Rattle.report.proofs.put_spent.Goals as goal

pub returns : goal.returns
returns c = search spent_put
