-- `report::put_number` meets its contract: a space, then the digits.
-- Assumes nothing.
use Rattle.report.proofs.PutLaws.{number_put}
use Rattle.report.proofs.put_number.Goals as goal

pub returns : goal.returns
returns c = search number_put
