-- `report::put_schedule` meets its contract: the starts, the word, the run numbers.
-- Assumes nothing.
use Rattle.report.proofs.LineLaws.{schedule_put}
use Rattle.report.proofs.put_schedule.Goals as goal

pub returns : goal.returns
returns c = search schedule_put
