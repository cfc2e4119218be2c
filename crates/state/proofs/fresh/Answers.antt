-- `state::fresh` meets its contract: the limit is one above the ceiling, and nothing was tried or found.
-- Assumes nothing.
use Rattle.std.proofs.Common.{refl}
use Rattle.state.proofs.fresh.Goals as goal

pub returns : goal.returns
returns c = record { nothing = refl; limit = refl; tries = refl; budget_is = refl; used = refl }
