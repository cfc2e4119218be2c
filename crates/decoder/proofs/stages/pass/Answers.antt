use Rattle.std.proofs.Common.{rules}
use Rattle.decoder.proofs.StepLaws.{pass_start, pass_next, pass_stop}
use Rattle.decoder.proofs.stages.pass.Goals as goal

pub loop-p-init : goal.loop-p-init
loop-p-init c = search pass_start

pub returns-then-most-distance : goal.returns-then-most-distance
returns-then-most-distance c = search pass_stop

pub loop-p-preserved : goal.loop-p-preserved
loop-p-preserved c = (search rules, search rules, search pass_next)

pub returns : goal.returns
returns c = search pass_stop
