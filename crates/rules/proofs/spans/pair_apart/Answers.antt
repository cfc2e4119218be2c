-- `rules::spans::pair_apart` meets its contract: the higher unit decides where the lower is in maintenance.
-- Assumes nothing.
use Rattle.rules.proofs.CellLaws.{pair_free, pair_state}
use Rattle.rules.proofs.spans.pair_apart.Goals as goal

pub returns-then-state-ne2 : goal.returns-then-state-ne2
returns-then-state-ne2 c = search pair_free

pub returns : goal.returns
returns c = search pair_state
