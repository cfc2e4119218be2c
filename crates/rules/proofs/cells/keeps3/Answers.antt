use Rattle.std.proofs.Common.{refl, rules}
use Rattle.sums.proofs.LoopLaws.{all_start, all_next, table_start, table_next, table_ended, table_broken}
use Rattle.model.specs.Rules.{keeps3}
use Rattle.rules.proofs.cells.keeps3.Goals as goal

pub late-init : goal.late-init
late-init c = (refl, search rules, search table_start)

pub loop-i-init : goal.loop-i-init
loop-i-init c = (search rules, search rules, search rules, search rules, search all_start)

pub loop-i-preserved : goal.loop-i-preserved
loop-i-preserved c = (search rules, search rules, search rules, search rules, search all_next)

pub late-preserved : goal.late-preserved
late-preserved c = (search rules, search rules, search table_next)

pub returns-after-late : goal.returns-after-late
unfolding keeps3
returns-after-late c = search table_ended

pub returns-then-not-not_late : goal.returns-then-not-not_late
unfolding keeps3
returns-then-not-not_late c = search table_broken
