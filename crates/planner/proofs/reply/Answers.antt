-- `planner::reply` meets its contract: the carry answers, or the search.
-- Assumes nothing.
use Rattle.planner.proofs.DueLaws.{reply_few, told_none, told_again, told_open}
use Rattle.planner.proofs.reply.Goals as goal

pub ceiling-ceiling-requires : goal.ceiling-ceiling-requires
ceiling-ceiling-requires c = search reply_few

pub returns-then-ceiling-m : goal.returns-then-ceiling-m
returns-then-ceiling-m c = search told_none

pub returns-in-Some : goal.returns-in-Some
returns-in-Some c = search told_again

pub reply_searched-requires : goal.reply_searched-requires
reply_searched-requires c = search told_open
