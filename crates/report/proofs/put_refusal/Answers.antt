-- `report::put_refusal` meets its contract: its four parts one after another.
-- Assumes nothing.
use Rattle.report.proofs.LineLaws.{refusal_put}
use Rattle.report.proofs.put_refusal.Goals as goal

pub returns : goal.returns
returns c = search refusal_put
