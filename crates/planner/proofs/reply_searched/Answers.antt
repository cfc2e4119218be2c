-- `planner::reply_searched` meets its contract: the ask is as the list has it.
-- Assumes nothing.
use Rattle.planner.proofs.DueLaws.{open_few, open_asks, open_told}
use Rattle.planner.proofs.reply_searched.Goals as goal

pub ceiling-requires : goal.ceiling-requires
ceiling-requires c = search open_few

pub budget-requires : goal.budget-requires
budget-requires c = search open_few

pub solve-requires : goal.solve-requires
solve-requires c = search open_asks

pub returns : goal.returns
returns c = search open_told
