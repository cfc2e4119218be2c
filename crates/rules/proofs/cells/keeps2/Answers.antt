use Rattle.std.proofs.Common.{refl, rules}
use Rattle.sums.proofs.LoopLaws.{all_start, all_next, table_start, table_next, table_ended, table_broken}
use Rattle.model.specs.Rules.{keeps2}
use Rattle.rules.proofs.cells.keeps2.Goals as goal

pub early-init : goal.early-init
early-init c = (refl, search rules, search table_start)

pub loop-i-init : goal.loop-i-init
loop-i-init c = (search rules, search rules, search rules, search rules, search all_start)

pub loop-i-preserved : goal.loop-i-preserved
loop-i-preserved c = (search rules, search rules, search rules, search rules, search all_next)

pub early-preserved : goal.early-preserved
early-preserved c = (search rules, search rules, search table_next)

pub returns-after-early : goal.returns-after-early
unfolding keeps2
returns-after-early c = search table_ended

pub returns-then-not-not_early : goal.returns-then-not-not_early
unfolding keeps2
returns-then-not-not_early c = search table_broken
