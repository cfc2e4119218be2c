use Rattle.std.proofs.Common.{refl, rules}
use Rattle.dual.proofs.BlameLaws.{thinning_start, thinning_drops, thinning_next, thinning_ended}
use Rattle.dual.proofs.shrink_blame.Goals as goal

pub loop-i-init : goal.loop-i-init
loop-i-init c = (refl, search thinning_start)

pub try_drop-kept-requires : goal.try_drop-kept-requires
try_drop-kept-requires c = search thinning_drops

pub loop-i-preserved : goal.loop-i-preserved
loop-i-preserved c = (search rules, search thinning_next)

pub returns : goal.returns
returns c = search thinning_ended
