-- `relaxation::passed_over` meets its contract: the two tests are the two reasons.
-- Assumes nothing.
use Rattle.relaxation.proofs.NodeLaws.{over_shut, over_dear}
use Rattle.relaxation.proofs.passed_over.Goals as goal

-- by their parts: the promise is a pair of implications, which `search` takes apart before it looks at a law
pub returns-then-has : goal.returns-then-has
returns-then-has c = let both = over_shut _ _ _ _ _ c.has.ensures c.if-has.true in record { over = both.0; «open» = both.1 }

pub returns : goal.returns
returns c = let both = over_dear _ _ _ _ _ c.has.ensures _ c.if-has.false c.no_gain.ensures in record { over = both.0; «open» = both.1 }
