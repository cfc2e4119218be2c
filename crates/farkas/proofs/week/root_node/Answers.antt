-- `farkas::week::root_node` meets its contract.
-- Assumes nothing.
use Rattle.std.proofs.Common.{rules}
use Rattle.sums.specs.Table.{entry}
use Rattle.farkas.proofs.SumsLaws.{root_made}
use Rattle.farkas.proofs.week.root_node.Goals as goal

pub overflow_cast-result : goal.overflow_cast-result
unfolding entry
overflow_cast-result c = search rules

pub returns : goal.returns
unfolding entry
returns c = search root_made
