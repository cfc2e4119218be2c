-- `decoder::open_at` meets its contract: the definition's tests, one after the other.
-- Assumes nothing.
use Rattle.std.proofs.Common.{arith}
use Rattle.sums.proofs.Tests.{tests}
use Rattle.decoder.proofs.FaultLaws.{number_some}
use Rattle.model.specs.Words.{kind_at}
use Rattle.decoder.specs.Stages.{open_at}
use Rattle.decoder.proofs.open_at.Goals as goal

pub returns-then-is_none : goal.returns-then-is_none
unfolding open_at kind_at
returns-then-is_none c = grind (arith, tests)

pub returns-else-is_none : goal.returns-else-is_none
unfolding open_at
returns-else-is_none c = grind (arith, tests, number_some)
