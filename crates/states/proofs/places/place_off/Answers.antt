-- `states::places::place_off` meets its contract: OFF, and the price unless it is out.
-- Assumes nothing.
use Rattle.std.proofs.Common.{rules}
use Rattle.states.proofs.PlaceLaws.{off_gone, off_here}
use Rattle.states.proofs.places.place_off.Goals as goal

pub returns-then-has : goal.returns-then-has
returns-then-has c = (search off_gone, search rules)

pub returns : goal.returns
returns c = (search off_here, search rules)
