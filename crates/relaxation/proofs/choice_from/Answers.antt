-- `relaxation::choice_from` meets its contract: the choice ends with a lower bound for all sets.
-- Assumes nothing.
use Rattle.std.proofs.Common.{rules}
use Rattle.relaxation.proofs.NodeLaws.{beginning_of, choosing_start}
use Rattle.relaxation.proofs.ValueLaws.{value_least}
use Rattle.relaxation.proofs.choice_from.Goals as goal

pub root-y-requires : goal.root-y-requires
root-y-requires c = search beginning_of

pub choose_any-requires : goal.choose_any-requires
choose_any-requires c = search choosing_start

pub returns : goal.returns
returns c = record { answer = search value_least; right = search rules }
