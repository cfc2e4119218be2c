use Rattle.std.proofs.Common.{refl, length-set, rules}
use Rattle.sums.proofs.LoopLaws.{list_start, list_next}
use Rattle.schedule.proofs.DrawLaws.{bytes_ended}
use Rattle.schedule.proofs.write.Goals as goal

pub loop-q-init : goal.loop-q-init
loop-q-init c = (search rules, refl, search list_start)

pub loop-q-preserved : goal.loop-q-preserved
loop-q-preserved c = (search rules, search (rules, length-set), search list_next)

pub returns : goal.returns
returns c = search bytes_ended
