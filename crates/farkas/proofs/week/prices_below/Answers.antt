-- `farkas::week::prices_below` meets its contract: it reads one place.
-- Assumes nothing.
use Rattle.std.proofs.Common.{rules}
use Rattle.sums.specs.Table.{entry}
use Rattle.farkas.proofs.week.prices_below.Goals as goal

pub returns : goal.returns
unfolding entry
returns c = search rules
