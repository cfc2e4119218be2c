-- `farkas::week::free_week` meets its contract: the search from the root.
-- Assumes nothing.
use Rattle.std.proofs.Common.{rules}
use Rattle.farkas.proofs.SumsLaws.{sums_few}
use Rattle.farkas.proofs.NodeLaws.{root_due, week_free, week_most}
use Rattle.farkas.proofs.week.free_week.Goals as goal

pub root_node-root-requires : goal.root_node-root-requires
root_node-root-requires c = (search rules, search sums_few)

pub walk-requires : goal.walk-requires
walk-requires c = search root_due

pub returns : goal.returns
returns c = (search week_free, search week_most)
