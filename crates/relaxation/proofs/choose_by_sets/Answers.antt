-- `relaxation::choose_by_sets` meets its contract: the choice ends with a lower bound for all sets.
-- Assumes nothing.
use Rattle.std.proofs.Common.{rules}
use Rattle.relaxation.proofs.ValueLaws.{least_chosen}
use Rattle.relaxation.proofs.choose_by_sets.Goals as goal

pub returns : goal.returns
returns c = record { answer = (search least_chosen, search rules); right = search rules }
