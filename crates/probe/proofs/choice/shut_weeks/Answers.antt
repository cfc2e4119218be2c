use Rattle.std.proofs.Common.{rules}
use Rattle.probe.proofs.choice.shut_weeks.Goals as goal

pub loop-t-init : goal.loop-t-init
loop-t-init c = (search rules, search rules)

pub loop-t-preserved : goal.loop-t-preserved
loop-t-preserved c = (search rules, search rules)

pub returns : goal.returns
returns c = tt
