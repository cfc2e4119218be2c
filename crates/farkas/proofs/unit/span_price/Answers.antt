use Rattle.std.proofs.Common.{rules}
use Rattle.sums.proofs.LoopLaws.{sum_start}
use Rattle.overhaul.proofs.UpkeepLaws.{start_some}
use Rattle.farkas.proofs.UnitLaws.{ends_few, span_next, span_priced}
use Rattle.farkas.proofs.unit.span_price.Goals as goal

pub overflow_sub-first : goal.overflow_sub-first
overflow_sub-first c = search (rules, start_some)

pub loop-k-init : goal.loop-k-init
loop-k-init c = (search rules, search ends_few, search rules, search sum_start)

pub loop-k-preserved : goal.loop-k-preserved
loop-k-preserved c = (search rules, search rules, search rules, search span_next)

pub returns : goal.returns
returns c = search span_priced
