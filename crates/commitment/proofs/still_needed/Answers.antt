-- `commitment::still_needed` meets its contract: all of the demand where nobody runs, else what the run leaves of it.
-- Assumes nothing.
use Rattle.commitment.proofs.LineLaws.{need_nobody}
use Rattle.commitment.proofs.still_needed.Goals as goal

pub returns-then-run-eq0 : goal.returns-then-run-eq0
returns-then-run-eq0 c = search need_nobody
