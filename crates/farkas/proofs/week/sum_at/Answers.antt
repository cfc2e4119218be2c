-- `farkas::week::sum_at` meets its contract: it reads one place.
-- Assumes nothing.
use Rattle.std.proofs.Common.{rules}
use Rattle.sums.specs.Table.{entry}
use Rattle.farkas.proofs.week.sum_at.Goals as goal

pub returns : goal.returns
unfolding entry
returns c = search rules
