-- `relaxation::start::shut_more` meets its contract: the two sets joined.
-- Assumes nothing.
use Rattle.relaxation.proofs.ShutLaws.{more_is}
use Rattle.relaxation.proofs.start.shut_more.Goals as goal

-- by its parts: `search` applies a promise about every unit only where it is listed
pub returns : goal.returns
returns c = more_is _ _ _ _ _ c.with.ensures c.union.ensures
