-- `states::nodes::after` meets its contract: each state by its own node.
-- Assumes nothing.
use Rattle.states.proofs.StepLaws.{comes_on, comes_off, comes_out}
use Rattle.states.proofs.nodes.after.Goals as goal

pub returns-in-On : goal.returns-in-On
returns-in-On c = search comes_on

pub returns-in-Off : goal.returns-in-Off
returns-in-Off c = comes_off _ _ _ _ _ c.in-Off.is c.child_off.ensures

pub returns-in-Out : goal.returns-in-Out
returns-in-Out c = comes_out _ _ _ _ _ c.in-Out.is c.child_out.ensures
