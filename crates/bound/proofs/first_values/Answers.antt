use Rattle.std.proofs.Common.{refl, rules}
use Rattle.bound.proofs.RootedLaws.{fronts_start, fronts_next, fronts_ended}
use Rattle.bound.proofs.first_values.Goals as goal

pub loop-t-init : goal.loop-t-init
loop-t-init c = (search rules, fronts_start _ _ refl)

pub loop-t-preserved : goal.loop-t-preserved
loop-t-preserved c = (search rules, search fronts_next)

pub returns : goal.returns
returns c = search fronts_ended
