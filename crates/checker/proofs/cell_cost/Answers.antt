-- `checker::cell_cost` meets its contract: an OFF cell has its own figure, the row of another state the cell's cost.
-- Assumes nothing.
use Rattle.std.proofs.Common.{rules}
use Rattle.checker.proofs.CostLaws.{off_costs, row_reaches, state_costs}
use Rattle.checker.proofs.cell_cost.Goals as goal

pub returns-then-state-eq0 : goal.returns-then-state-eq0
returns-then-state-eq0 c = (search off_costs, search rules)

pub bounds-row-i : goal.bounds-row-i
bounds-row-i c = search row_reaches

pub returns : goal.returns
returns c = (search state_costs, search rules)
