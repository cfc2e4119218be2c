-- `states::bounds::weighed` meets its contract: the largest of three lower bounds.
-- Assumes nothing.
use Rattle.states.proofs.ChoiceLaws.{floor_score, floor_greater}
use Rattle.states.proofs.bounds.weighed.Goals as goal

pub returns : goal.returns
returns c = search (floor_greater, floor_score)
