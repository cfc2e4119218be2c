use Rattle.std.proofs.Common.{rules}
use Rattle.input.proofs.InputLaws.{end_start, end_here, end_next, end_none}
use Rattle.input.proofs.file_end.Goals as goal

pub loop-k-init : goal.loop-k-init
loop-k-init c = (search rules, search end_start)

pub returns-then-kind_of-eq15 : goal.returns-then-kind_of-eq15
returns-then-kind_of-eq15 c = (search end_here, search rules)

pub loop-k-preserved : goal.loop-k-preserved
loop-k-preserved c = (search rules, search end_next)

pub returns : goal.returns
returns c = (search end_none, search rules)
