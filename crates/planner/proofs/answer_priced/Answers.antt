-- `planner::answer_priced` meets its contract: on an emptied table and an emptied memo a run may begin, at any prices.
-- Assumes nothing.
use Rattle.planner.proofs.DueLaws.{starts}
use Rattle.planner.proofs.answer_priced.Goals as goal

pub answer_each-requires : goal.answer_each-requires
answer_each-requires c = search starts
