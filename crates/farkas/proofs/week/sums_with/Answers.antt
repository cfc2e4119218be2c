-- `farkas::week::sums_with` meets its contract: four sums with one unit more.
-- Assumes nothing.
use Rattle.std.proofs.Common.{rules}
use Rattle.sums.specs.Table.{entry}
use Rattle.farkas.proofs.SumsLaws.{sums_few, prices_fit, opens_fit, caps_fit, larger_of, added}
use Rattle.farkas.proofs.week.sums_with.Goals as goal

pub open_price-open-requires : goal.open_price-open-requires
unfolding entry
open_price-open-requires c = (search sums_few, search rules)

pub overflow_add-result : goal.overflow_add-result
unfolding entry
overflow_add-result c = search prices_fit

pub overflow_add-result-2 : goal.overflow_add-result-2
unfolding entry
overflow_add-result-2 c = search opens_fit

pub overflow_add-result-3 : goal.overflow_add-result-3
unfolding entry
overflow_add-result-3 c = search caps_fit

pub returns : goal.returns
unfolding entry
returns c = search (added, larger_of)
