use Rattle.std.proofs.Common.{rules}
use Rattle.dual.proofs.CostLaws.{starts_begin, starts_permit, starts_next, put_least, put_ended}
use Rattle.dual.proofs.put_costs.Goals as goal

pub loop-s-init : goal.loop-s-init
loop-s-init c = (search starts_begin, search put_least)

pub put_start-requires : goal.put_start-requires
put_start-requires c = (search rules, search starts_permit, search rules)

pub loop-s-preserved : goal.loop-s-preserved
loop-s-preserved c = (search starts_next, search rules)

pub returns : goal.returns
returns c = search put_ended
