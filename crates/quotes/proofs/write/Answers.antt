use Rattle.std.proofs.Common.{refl, length-set, rules}
use Rattle.sums.proofs.LoopLaws.{list_start}
use Rattle.quotes.proofs.CostLaws.{costs_next, costs_ended}
use Rattle.quotes.proofs.write.Goals as goal

pub loop-k-init : goal.loop-k-init
loop-k-init c = (search rules, (refl, (refl, (search list_start, search rules))))

pub loop-k-preserved : goal.loop-k-preserved
loop-k-preserved c = (search rules, (search (rules, length-set), (search rules, (search costs_next, search rules))))

pub returns : goal.returns
returns c = search costs_ended
