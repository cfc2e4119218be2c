-- `states::totals::idle_of` meets its contract: a place that is shut is OFF, another OFF or OUT.
-- Assumes nothing.
use Rattle.std.proofs.Common.{rules}
use Rattle.states.proofs.RangeLaws.{price_fits}
use Rattle.states.proofs.TotalLaws.{idle_shut, idle_free, idle_small}
use Rattle.states.proofs.totals.idle_of.Goals as goal

pub returns-then-has : goal.returns-then-has
returns-then-has c = (search idle_shut, search rules)

pub overflow_add-price : goal.overflow_add-price
overflow_add-price c = search (rules, price_fits)

pub returns : goal.returns
returns c = (search idle_free, search idle_small)
