use Rattle.std.proofs.Common.{rules}
use Rattle.sums.proofs.LoopLaws.{table_start, table_ended}
use Rattle.model.specs.Rules.{keeps4}
use Rattle.rules.proofs.SpanLaws.{out_start, out_next, whole_next, whole_broken}
use Rattle.rules.proofs.spans.keeps4.Goals as goal

pub whole-init : goal.whole-init
whole-init c = (search rules, search rules, search table_start)

pub loop-t-init : goal.loop-t-init
loop-t-init c = (search rules, search rules, search rules, search rules, search out_start)

pub loop-t-preserved : goal.loop-t-preserved
loop-t-preserved c = (search rules, search rules, search rules, search rules, search out_next)

pub whole-preserved : goal.whole-preserved
whole-preserved c = (search rules, search rules, search whole_next)

pub returns-after-whole : goal.returns-after-whole
unfolding keeps4
returns-after-whole c = search table_ended

pub returns-then-state-ne2 : goal.returns-then-state-ne2
unfolding keeps4
returns-then-state-ne2 c = search whole_broken
