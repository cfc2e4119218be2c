-- `checker::grid_verdict` meets its contract: the length first, then the bytes.
-- Assumes nothing.
use Rattle.checker.proofs.JudgingLaws.{length_fault, length_right}
use Rattle.checker.proofs.grid_verdict.Goals as goal

pub returns-then-grid-file : goal.returns-then-grid-file
returns-then-grid-file c = rw c.at.ensures (search length_fault)

pub returns : goal.returns
returns c = search length_right
