-- `farkas::week::put_unit` meets its contract: four sums are written.
-- Assumes nothing.
use Rattle.farkas.proofs.SumsLaws.{sums_next}
use Rattle.farkas.proofs.week.put_unit.Goals as goal

pub returns : goal.returns
returns c = search sums_next
