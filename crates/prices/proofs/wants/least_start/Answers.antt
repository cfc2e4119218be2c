use Rattle.std.proofs.Common.{rules}
use Rattle.prices.proofs.RangeLaws.{first_ends, last_ends}
use Rattle.prices.proofs.wants.least_start.Goals as goal

pub first_cost-cost-requires : goal.first_cost-cost-requires
first_cost-cost-requires c = (search rules, search rules, search first_ends)

pub loop-s-init : goal.loop-s-init
loop-s-init c = (search last_ends, search rules, search rules, search rules, search rules, search rules)

pub swap_cost-gone-requires : goal.swap_cost-gone-requires
swap_cost-gone-requires c = (search rules, search rules, search rules, search rules)

pub swap_cost-come-requires : goal.swap_cost-come-requires
swap_cost-come-requires c = (search rules, search rules, search rules, search rules)
