-- `commitment::line_cost` meets its contract: running where the run has the unit, else OFF.
-- Assumes nothing.
use Rattle.std.proofs.Common.{rules}
use Rattle.commitment.proofs.LineLaws.{line_on, line_off}
use Rattle.commitment.proofs.line_cost.Goals as goal

pub returns-then-has : goal.returns-then-has
returns-then-has c = (search line_on, search rules)

pub returns : goal.returns
returns c = (search line_off, search rules)
