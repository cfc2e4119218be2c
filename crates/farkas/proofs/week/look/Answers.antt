-- `farkas::week::look` meets its contract: each way out by what the node comes to at least.
-- Assumes nothing.
use Rattle.farkas.proofs.NodeLaws.{seen_short}
use Rattle.farkas.proofs.week.look.Goals as goal

pub returns-then-caps-y : goal.returns-then-caps-y
returns-then-caps-y c = search seen_short
