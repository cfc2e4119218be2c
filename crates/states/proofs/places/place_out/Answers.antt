-- `states::places::place_out` meets its contract: OFF.
-- Assumes nothing.
use Rattle.std.proofs.Common.{rules}
use Rattle.states.proofs.PlaceLaws.{out_is}
use Rattle.states.proofs.places.place_out.Goals as goal

pub returns : goal.returns
returns c = (search out_is, search rules)
