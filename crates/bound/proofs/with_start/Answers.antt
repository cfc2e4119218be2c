-- `bound::with_start` meets its contract: one sum.
-- Assumes nothing.
use Rattle.bound.proofs.JudgeLaws.{with_start_lem}
use Rattle.bound.proofs.with_start.Goals as goal

pub returns : goal.returns
returns c = search with_start_lem
