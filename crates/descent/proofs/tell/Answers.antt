-- `descent::tell` meets its contract: by the limit and how the probe ended.
-- Assumes nothing.
use Rattle.descent.proofs.HeldLaws.{told_plan, told_spent, told_none}
use Rattle.descent.proofs.tell.Goals as goal

pub returns-then-st-limit : goal.returns-then-st-limit
returns-then-st-limit c = search told_plan

pub returns-in-Spent : goal.returns-in-Spent
returns-in-Spent c = search told_spent

pub returns-in-Dead : goal.returns-in-Dead
returns-in-Dead c = search told_none
