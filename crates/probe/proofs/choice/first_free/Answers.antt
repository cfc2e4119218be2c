use Rattle.std.proofs.Common.{rules}
use Rattle.probe.proofs.ChoiceLaws.{placed_start, placed_next, chosen_free, chosen_all}
use Rattle.probe.proofs.choice.first_free.Goals as goal

pub loop-i-init : goal.loop-i-init
loop-i-init c = (search rules, search placed_start)

pub returns-then-not-has : goal.returns-then-not-has
returns-then-not-has c = search chosen_free

pub loop-i-preserved : goal.loop-i-preserved
loop-i-preserved c = (search rules, search placed_next)

pub returns : goal.returns
returns c = search chosen_all
