-- `report::put_block` meets its contract: by cases of the status.
-- Assumes nothing.
use Rattle.report.proofs.LineLaws.{block_plan, block_none, block_best, block_spent}
use Rattle.report.proofs.put_block.Goals as goal

pub returns-then-status-eq1 : goal.returns-then-status-eq1
returns-then-status-eq1 c = search block_plan

pub returns-then-status-eq2 : goal.returns-then-status-eq2
returns-then-status-eq2 c = search block_none

pub returns-then-status-eq3 : goal.returns-then-status-eq3
returns-then-status-eq3 c = search block_best

pub returns : goal.returns
returns c = search block_spent
