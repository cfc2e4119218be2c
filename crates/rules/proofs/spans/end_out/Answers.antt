use Rattle.std.proofs.Common.{rules}
use Rattle.rules.proofs.SpanLaws.{from_start, from_next, end_behind, end_none}
use Rattle.rules.proofs.spans.end_out.Goals as goal

pub loop-t-init : goal.loop-t-init
loop-t-init c = (search rules, search from_start)

pub returns-then-state-eq2 : goal.returns-then-state-eq2
returns-then-state-eq2 c = search end_behind

pub loop-t-preserved : goal.loop-t-preserved
loop-t-preserved c = (search rules, search from_next)

pub returns : goal.returns
returns c = search end_none
