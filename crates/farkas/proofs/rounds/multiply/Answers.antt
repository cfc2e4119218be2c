use Rattle.std.proofs.Common.{rules}
use Rattle.prices.proofs.RangeLaws.{moved_start, moved_on}
use Rattle.farkas.proofs.rounds.multiply.Goals as goal

pub loop-t-init : goal.loop-t-init
loop-t-init c = (search rules, search moved_start)

pub loop-t-preserved : goal.loop-t-preserved
loop-t-preserved c = (search rules, search moved_on)
