-- `rules::weekly::out_part` meets its contract: a unit in maintenance counts one.
-- Assumes nothing.
use Rattle.std.proofs.Common.{rules}
use Rattle.rules.proofs.CellLaws.{maint_counts, other_counts}
use Rattle.rules.proofs.weekly.out_part.Goals as goal

pub returns-then-state-eq2 : goal.returns-then-state-eq2
returns-then-state-eq2 c = (search maint_counts, search rules)

pub returns : goal.returns
returns c = (search other_counts, search rules)
