-- `checker::row_for` meets its contract: the row is that of one of the file's two tables.
-- Assumes nothing.
use Rattle.std.proofs.Common.{rules}
use Rattle.instance.proofs.TableLaws.{maints_rows, runnings_rows}
use Rattle.checker.proofs.CostLaws.{row_named}
use Rattle.checker.proofs.row_for.Goals as goal

pub cost_row-requires : goal.cost_row-requires
cost_row-requires c = record { t_bound = (search rules, search rules); u_in_bounds = (search maints_rows, search runnings_rows) }

pub returns : goal.returns
returns c = search row_named
