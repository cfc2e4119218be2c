use Rattle.std.proofs.Common.{rules}
use Rattle.relaxation.proofs.ShutLaws.{shut_start, shut_ended}
use Rattle.relaxation.proofs.start.shut_units.Goals as goal

pub loop-i-init : goal.loop-i-init
loop-i-init c = (search rules, search shut_start)

pub loop-i-preserved : goal.loop-i-preserved
loop-i-preserved c = (search rules, search rules)

pub returns : goal.returns
returns c = search shut_ended
