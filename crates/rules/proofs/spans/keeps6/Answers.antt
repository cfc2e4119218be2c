use Rattle.std.proofs.Common.{rules}
use Rattle.sums.proofs.LoopLaws.{all_start, all_next, all_ended, all_broken}
use Rattle.model.specs.Rules.{keeps6}
use Rattle.rules.proofs.spans.keeps6.Goals as goal

pub overhauls-init : goal.overhauls-init
overhauls-init c = (search rules, search rules, search all_start)

pub overhauls-preserved : goal.overhauls-preserved
overhauls-preserved c = (search rules, search rules, search all_next)

pub returns-after-overhauls : goal.returns-after-overhauls
unfolding keeps6
returns-after-overhauls c = search all_ended

pub returns-then-not-overhauled : goal.returns-then-not-overhauled
unfolding keeps6
returns-then-not-overhauled c = search all_broken
