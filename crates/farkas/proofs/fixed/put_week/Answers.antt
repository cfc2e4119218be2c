use Rattle.std.proofs.Common.{rules}
use Rattle.prices.proofs.RangeLaws.{moved_start}
use Rattle.farkas.proofs.TestLaws.{moved_put}
use Rattle.farkas.proofs.fixed.put_week.Goals as goal

pub loop-i-init : goal.loop-i-init
loop-i-init c = (search rules, search moved_start)

pub loop-i-preserved : goal.loop-i-preserved
loop-i-preserved c = (search rules, search moved_put)
