-- `rules::weekly::output_part` meets its contract: a unit ON adds its capacity.
-- Assumes nothing.
use Rattle.std.proofs.Common.{rules}
use Rattle.rules.proofs.CellLaws.{on_adds, off_adds}
use Rattle.rules.proofs.weekly.output_part.Goals as goal

pub returns-then-state-eq1 : goal.returns-then-state-eq1
returns-then-state-eq1 c = (search on_adds, search rules)

pub returns : goal.returns
returns c = (search off_adds, search rules)
