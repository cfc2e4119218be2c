-- `relaxation::choose_by_states` meets its contract: what is known of the node is what the search asks for.
-- Assumes nothing.
use Rattle.relaxation.proofs.NodeLaws.{states_due}
use Rattle.relaxation.proofs.choose_by_states.Goals as goal

pub week_least-found-requires : goal.week_least-found-requires
week_least-found-requires c = search states_due
