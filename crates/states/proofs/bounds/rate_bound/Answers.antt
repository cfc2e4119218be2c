-- `states::bounds::rate_bound` meets its contract: two sums of the table in the bound by rate and price.
-- Assumes nothing.
use Rattle.std.proofs.Common.{rules}
use Rattle.states.proofs.TableLaws.{by_rate, idle_under, gain_under}
use Rattle.states.proofs.bounds.rate_bound.Goals as goal

pub rated-requires : goal.rated-requires
rated-requires c = (search rules, search rules, search idle_under, search gain_under, search rules, search rules, search rules)

pub returns : goal.returns
returns c = search by_rate
