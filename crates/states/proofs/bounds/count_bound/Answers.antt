-- `states::bounds::count_bound` meets its contract: the bound by rate and price where places are counted.
-- Assumes nothing.
use Rattle.std.proofs.Common.{rules}
use Rattle.states.proofs.CountLaws.{unit_idle_under, unit_gain_under, short_few, by_count}
use Rattle.states.proofs.bounds.count_bound.Goals as goal

pub rated-requires : goal.rated-requires
rated-requires c = (search rules, search rules, search unit_idle_under, search unit_gain_under, search short_few, search rules, search rules)

pub returns : goal.returns
returns c = search by_count
