use Rattle.std.proofs.Common.{refl, rules}
use Rattle.sums.proofs.LoopLaws.{all_start, all_next, all_ended, all_broken}
use Rattle.model.specs.Rules.{keeps7}
use Rattle.rules.proofs.weekly.keeps7.Goals as goal

pub crews-init : goal.crews-init
crews-init c = (refl, search rules, search all_start)

pub crews-preserved : goal.crews-preserved
crews-preserved c = (search rules, search rules, search all_next)

pub returns-after-crews : goal.returns-after-crews
unfolding keeps7
returns-after-crews c = search all_ended

pub returns-then-not-crews_enough : goal.returns-then-not-crews_enough
unfolding keeps7
returns-then-not-crews_enough c = search all_broken
