use Rattle.std.proofs.Common.{rules}
use Rattle.sums.proofs.LoopLaws.{sum_start}
use Rattle.overhaul.proofs.OffLaws.{off_next, off_ended}
use Rattle.overhaul.proofs.off_weeks.Goals as goal

pub loop-t-init : goal.loop-t-init
loop-t-init c = (search rules, search rules, search sum_start)

pub loop-t-preserved : goal.loop-t-preserved
loop-t-preserved c = (search rules, search rules, search off_next)

pub returns : goal.returns
returns c = (search off_ended, search rules)
