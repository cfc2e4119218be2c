use Rattle.std.proofs.Common.{rules}
use Rattle.dual.proofs.CostLaws.{costs_start, costs_ended}
use Rattle.dual.proofs.put_all_costs.Goals as goal

pub loop-i-init : goal.loop-i-init
loop-i-init c = (search rules, search costs_start)

pub returns : goal.returns
returns c = search costs_ended
