use Rattle.std.proofs.Common.{rules}
use Rattle.dual.proofs.CostLaws.{starts_begin, starts_next}
use Rattle.dual.proofs.CostLaws.{least_start, least_at, least_next, least_ended, least_most}
use Rattle.dual.proofs.least_priced.Goals as goal

pub loop-s-init : goal.loop-s-init
loop-s-init c = (search starts_begin, search least_start)

pub priced_cost-cost-requires : goal.priced_cost-cost-requires
priced_cost-cost-requires c = (search least_at, search rules)

pub loop-s-preserved : goal.loop-s-preserved
loop-s-preserved c = (search starts_next, search least_next)

pub returns : goal.returns
returns c = (search least_ended, search least_most)
