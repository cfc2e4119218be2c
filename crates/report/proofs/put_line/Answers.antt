-- `report::put_line` meets its contract: its four parts one after another.
-- Assumes nothing.
use Rattle.std.proofs.Common.{rules}
use Rattle.report.proofs.LineLaws.{line_fits, line_whole, line_put}
use Rattle.report.proofs.put_line.Goals as goal

pub overflow_mul-k : goal.overflow_mul-k
overflow_mul-k c = search line_fits

pub put_block-block-requires : goal.put_block-block-requires
put_block-block-requires c = (search line_whole, search rules)

pub returns : goal.returns
returns c = search line_put
