use Rattle.std.proofs.Common.{rules}
use Rattle.sums.proofs.LoopLaws.{sum_start, sum_ended}
use Rattle.dual.proofs.BlameLaws.{gains_next}
use Rattle.dual.proofs.gains.Goals as goal

pub loop-k-init : goal.loop-k-init
loop-k-init c = (search rules, search rules, search sum_start)

pub loop-k-preserved : goal.loop-k-preserved
loop-k-preserved c = (search rules, search rules, search gains_next)

pub returns : goal.returns
returns c = (search sum_ended, search rules)
