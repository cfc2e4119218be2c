-- `states::bounds::flat_bound` meets its contract: product and sum fit; a price for each place OUT bounds.
-- Assumes nothing.
use Rattle.std.proofs.Common.{rules}
use Rattle.states.proofs.RangeLaws.{flat_fits}
use Rattle.states.proofs.TableLaws.{by_flat, flat_under}
use Rattle.states.proofs.bounds.flat_bound.Goals as goal

pub overflow_add-y : goal.overflow_add-y
overflow_add-y c = search (rules, flat_fits, flat_under)

pub returns : goal.returns
returns c = search by_flat
