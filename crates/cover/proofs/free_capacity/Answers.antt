-- `cover::free_capacity` meets its contract: each way is one case of the definition.
-- Assumes nothing.
use Rattle.cover.proofs.TableLaws.{away_out, away_in}
use Rattle.cover.proofs.free_capacity.Goals as goal

pub returns-then-has : goal.returns-then-has
returns-then-has c = search away_out

pub returns : goal.returns
returns c = search away_in
