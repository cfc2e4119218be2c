-- `states::nodes::child_off` meets its contract: the test says which.
-- Assumes nothing.
use Rattle.std.proofs.Common.{rules}
use Rattle.states.proofs.RangeLaws.{off_fits}
use Rattle.states.proofs.nodes.child_off.Goals as goal

pub overflow_add-result : goal.overflow_add-result
overflow_add-result c = search (rules, off_fits)
