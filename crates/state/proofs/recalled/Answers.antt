-- `state::recalled` meets its contract: the set that is looked up has unit j as well.
-- Assumes nothing.
use Rattle.state.proofs.TableLaws.{recalled_with}
use Rattle.state.proofs.recalled.Goals as goal

-- by its parts: `search` finds no set that stands under a binder alone
pub returns : goal.returns
returns c = search (recalled_with, c.with.ensures)
