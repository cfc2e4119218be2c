use Rattle.std.proofs.Common.{rules}
use Rattle.relaxation.proofs.ShutLaws.{room_start, room_next, room_ended}
use Rattle.relaxation.proofs.start.room_left.Goals as goal

pub loop-i-init : goal.loop-i-init
loop-i-init c = (search rules, search room_start)

pub loop-i-preserved : goal.loop-i-preserved
loop-i-preserved c = (search rules, search room_next)

pub returns : goal.returns
returns c = search room_ended
