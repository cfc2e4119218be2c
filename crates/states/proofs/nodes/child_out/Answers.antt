-- `states::nodes::child_out` meets its contract: the test says which.
-- Assumes nothing.
use Rattle.std.proofs.Common.{refl, rules}
use Rattle.states.proofs.StepLaws.{go_crew, go_bit, bar_or}
use Rattle.states.proofs.RangeLaws.{out_fits}
use Rattle.states.proofs.nodes.child_out.Goals as goal

pub overflow_add-result : goal.overflow_add-result
overflow_add-result c = search (rules, out_fits)

pub returns-then-not-may_go : goal.returns-then-not-may_go
returns-then-not-may_go c = search go_bit

pub overflow_sub-result : goal.overflow_sub-result
overflow_sub-result c = search go_crew

pub returns : goal.returns
returns c = (search go_bit, record { need_is = refl; crews_is = refl; score_is = search rules; bar_is = search bar_or })
