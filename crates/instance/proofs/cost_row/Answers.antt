-- `instance::cost_row` meets its contract: each way returns the row of the table that the state names.
-- Assumes nothing.
use Rattle.instance.proofs.TableLaws.{row_maint, row_running}
use Rattle.instance.proofs.cost_row.Goals as goal

pub returns-then-state-eq2 : goal.returns-then-state-eq2
returns-then-state-eq2 c = search row_maint

pub returns : goal.returns
returns c = search row_running
