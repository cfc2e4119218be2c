-- `report::put_best` meets its contract: the word, the schedule, the mark.
-- Assumes nothing.
use Rattle.report.proofs.LineLaws.{best_put}
use Rattle.report.proofs.put_best.Goals as goal

pub returns : goal.returns
returns c = search best_put
