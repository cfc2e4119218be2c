use Rattle.std.proofs.Common.{rules}
use Rattle.sums.proofs.LoopLaws.{gathered_start, gathered_next}
use Rattle.commitment.proofs.ThriftyLaws.{thrifty_none, thrifty_ended}
use Rattle.commitment.proofs.thrifty_run.Goals as goal

pub returns-then-file : goal.returns-then-file
returns-then-file c = search thrifty_none

pub loop-i-init : goal.loop-i-init
loop-i-init c = (search rules, search rules, search gathered_start)

pub loop-i-preserved : goal.loop-i-preserved
loop-i-preserved c = (search rules, search rules, search gathered_next)

pub returns : goal.returns
returns c = search thrifty_ended
