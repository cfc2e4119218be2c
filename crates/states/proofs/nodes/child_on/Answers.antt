-- `states::nodes::child_on` meets its contract: each field by what made it.
-- Assumes nothing.
use Rattle.std.proofs.Common.{rules}
use Rattle.states.proofs.RangeLaws.{on_fits}
use Rattle.states.proofs.nodes.child_on.Goals as goal

pub overflow_add-result : goal.overflow_add-result
overflow_add-result c = search (rules, on_fits)
