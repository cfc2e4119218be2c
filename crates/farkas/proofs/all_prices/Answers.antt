use Rattle.std.proofs.Common.{rules}
use Rattle.sums.proofs.LoopLaws.{sum_start, sum_next}
use Rattle.farkas.proofs.TestLaws.{prices_ended}
use Rattle.farkas.proofs.all_prices.Goals as goal

pub loop-t-init : goal.loop-t-init
loop-t-init c = (search rules, search rules, search sum_start)

pub loop-t-preserved : goal.loop-t-preserved
loop-t-preserved c = (search rules, search rules, search sum_next)

pub returns : goal.returns
returns c = search prices_ended
