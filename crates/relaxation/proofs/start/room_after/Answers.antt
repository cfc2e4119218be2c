-- `relaxation::start::room_after` meets its contract: a unit that is out counts one.
-- Assumes nothing.
use Rattle.relaxation.proofs.ShutLaws.{room_taken}
use Rattle.relaxation.proofs.start.room_after.Goals as goal

pub returns-then-room-gt0 : goal.returns-then-room-gt0
returns-then-room-gt0 c = search room_taken
