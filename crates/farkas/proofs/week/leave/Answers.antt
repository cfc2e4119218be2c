-- `farkas::week::leave` meets its contract: its partners are barred with the unit out.
-- Assumes nothing.
use Rattle.farkas.proofs.NodeLaws.{leave_made}
use Rattle.farkas.proofs.week.leave.Goals as goal

pub returns : goal.returns
returns c = search leave_made
