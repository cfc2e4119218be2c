-- `walk::shared` meets its contract: a set without one unit, and another.
-- Assumes nothing.
use Rattle.walk.proofs.UnitLaws.{shared_of}
use Rattle.walk.proofs.shared.Goals as goal

-- by its parts: `search` finds no set that stands under a binder alone
pub returns : goal.returns
returns c = shared_of _ _ _ _ _ c.without.ensures c.union.ensures
