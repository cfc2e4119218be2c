-- `farkas::week::bound` meets its contract: all prices but those that can be saved.
-- Assumes nothing.
use Rattle.std.proofs.Common.{rules}
use Rattle.farkas.proofs.NodeLaws.{top_small, bound_floor, bound_small}
use Rattle.farkas.proofs.week.bound.Goals as goal

pub savable-saved-requires : goal.savable-saved-requires
savable-saved-requires c = (search rules, search rules, search top_small)

pub returns : goal.returns
returns c = (search bound_floor, search bound_small)
