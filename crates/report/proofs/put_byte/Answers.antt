-- `report::put_byte` meets its contract: one byte in its place.
-- Assumes nothing.
use Rattle.report.proofs.PutLaws.{put_one}
use Rattle.report.proofs.put_byte.Goals as goal

pub returns : goal.returns
returns c = search put_one
