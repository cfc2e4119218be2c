-- `report::put_mark` meets its contract: the word, then the starts.
-- Assumes nothing.
use Rattle.report.proofs.LineLaws.{mark_put}
use Rattle.report.proofs.put_mark.Goals as goal

pub returns : goal.returns
returns c = search mark_put
