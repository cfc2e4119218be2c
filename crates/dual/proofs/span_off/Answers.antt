use Rattle.std.proofs.Common.{rules}
use Rattle.sums.proofs.LoopLaws.{sum_start}
use Rattle.overhaul.proofs.UpkeepLaws.{start_some, ends_within}
use Rattle.dual.proofs.CostLaws.{inside_next, span_ended}
use Rattle.dual.proofs.span_off.Goals as goal

pub overflow_sub-first : goal.overflow_sub-first
overflow_sub-first c = search (rules, start_some)

pub loop-k-init : goal.loop-k-init
loop-k-init c = (search rules, search ends_within, search rules, search sum_start)

pub loop-k-preserved : goal.loop-k-preserved
loop-k-preserved c = (search rules, search rules, search rules, search inside_next)

pub returns : goal.returns
returns c = search span_ended
