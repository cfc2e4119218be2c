use Rattle.std.proofs.Common.{refl, rules}
use Rattle.decoder.proofs.StepLaws.{pass_stop, pass_end, pairs_next, prev_next}
use Rattle.decoder.proofs.stages.pass_pairs.Goals as goal

pub loop-p-init : goal.loop-p-init
loop-p-init c = (search rules, search rules, search prev_next, refl)

pub returns-then-is_some : goal.returns-then-is_some
returns-then-is_some c = search pass_stop

pub loop-p-preserved : goal.loop-p-preserved
loop-p-preserved c = (search rules, search rules, search prev_next, search pairs_next)

pub returns : goal.returns
returns c = search pass_end
