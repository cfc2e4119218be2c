use Rattle.std.proofs.Common.{rules}
use Rattle.sums.proofs.LoopLaws.{sum_start}
use Rattle.bound.proofs.RootedLaws.{least_next, least_ended}
use Rattle.bound.proofs.least_sum.Goals as goal

pub loop-i-init : goal.loop-i-init
loop-i-init c = (search rules, search rules, search sum_start, search rules)

pub loop-i-preserved : goal.loop-i-preserved
loop-i-preserved c = (search rules, search rules, search least_next, search rules)

pub returns : goal.returns
returns c = (search least_ended, search rules)
