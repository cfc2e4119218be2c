use Rattle.std.proofs.Common.{rules}
use Rattle.sums.proofs.LoopLaws.{all_start, all_next, all_ended, all_broken}
use Rattle.model.specs.Rules.{keeps5}
use Rattle.rules.proofs.spans.keeps5.Goals as goal

pub long-init : goal.long-init
long-init c = (search rules, search rules, search all_start)

pub long-preserved : goal.long-preserved
long-preserved c = (search rules, search rules, search all_next)

pub returns-after-long : goal.returns-after-long
unfolding keeps5
returns-after-long c = search all_ended

pub returns-then-not-long_enough : goal.returns-then-not-long_enough
unfolding keeps5
returns-then-not-long_enough c = search all_broken
