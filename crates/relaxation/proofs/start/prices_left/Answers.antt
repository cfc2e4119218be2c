use Rattle.std.proofs.Common.{refl, rules}
use Rattle.relaxation.proofs.LeftLaws.{left_start, left_fits, left_next, left_ended}
use Rattle.relaxation.proofs.start.prices_left.Goals as goal

pub loop-i-init : goal.loop-i-init
loop-i-init c = (search rules, refl, search left_start)

pub price_added-requires : goal.price_added-requires
price_added-requires c = (search rules, search rules, search left_fits, search rules)

pub loop-i-preserved : goal.loop-i-preserved
loop-i-preserved c = (search rules, search rules, search left_next)

pub returns : goal.returns
returns c = search left_ended
