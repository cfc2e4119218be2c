-- `states::places::place_on` meets its contract: OFF where it is out, else running and the price.
-- Assumes nothing.
use Rattle.std.proofs.Common.{rules}
use Rattle.states.proofs.PlaceLaws.{on_gone, on_here}
use Rattle.states.proofs.places.place_on.Goals as goal

pub returns-then-has : goal.returns-then-has
returns-then-has c = (search on_gone, search rules)

pub returns : goal.returns
returns c = (search on_here, search rules)
