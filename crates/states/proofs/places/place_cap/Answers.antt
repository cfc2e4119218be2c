-- `states::places::place_cap` meets its contract: a unit that is out gives nothing.
-- Assumes nothing.
use Rattle.std.proofs.Common.{rules}
use Rattle.states.proofs.PlaceLaws.{cap_gone, cap_here}
use Rattle.states.proofs.places.place_cap.Goals as goal

pub returns-then-has : goal.returns-then-has
returns-then-has c = (search cap_gone, search rules)

pub returns : goal.returns
returns c = (search cap_here, search rules)
