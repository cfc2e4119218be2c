-- `planner::tables_of` meets its contract: prices are found, or not needed, and the table gets all its parts.
-- Assumes nothing.
use Rattle.std.proofs.Common.{rules}
use Rattle.planner.proofs.DueLaws.{bare_priced, bare_recalls, emptied_right, emptied_recalls}
use Rattle.planner.proofs.tables_of.Goals as goal

pub fill_tables-requires : goal.fill_tables-requires
fill_tables-requires c = (search bare_priced, search bare_recalls)

pub find_prices-priced-requires : goal.find_prices-priced-requires
find_prices-priced-requires c = (search rules, search emptied_right)

pub fill_tables-requires-2 : goal.fill_tables-requires-2
fill_tables-requires-2 c = (search rules, search emptied_recalls)
