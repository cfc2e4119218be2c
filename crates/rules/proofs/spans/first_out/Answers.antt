use Rattle.std.proofs.Common.{rules}
use Rattle.rules.proofs.SpanLaws.{none_start, none_next, first_found, first_none}
use Rattle.rules.proofs.spans.first_out.Goals as goal

pub loop-t-init : goal.loop-t-init
loop-t-init c = (search rules, search none_start)

pub returns-then-state-eq2 : goal.returns-then-state-eq2
returns-then-state-eq2 c = search first_found

pub loop-t-preserved : goal.loop-t-preserved
loop-t-preserved c = (search rules, search none_next)

pub returns : goal.returns
returns c = search first_none
