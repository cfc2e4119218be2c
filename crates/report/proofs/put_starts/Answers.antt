-- `report::put_starts` meets its contract: its three parts one after another.
-- Assumes nothing.
use Rattle.report.proofs.LineLaws.{starts_put}
use Rattle.report.proofs.put_starts.Goals as goal

pub returns : goal.returns
returns c = search starts_put
