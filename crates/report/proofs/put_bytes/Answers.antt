-- `report::put_bytes` meets its contract: the text stands where as many bytes stood.
-- Assumes nothing.
use Rattle.std.proofs.Common.{rules}
use Rattle.report.proofs.PutLaws.{put_over}
use Rattle.report.proofs.put_bytes.Goals as goal

pub returns : goal.returns
returns c = put_over c.args.text.now c.args.s.now c.copy_from_slice.new.self c.args.at (search rules) c.copy_from_slice.ensures.after
