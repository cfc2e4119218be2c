-- `bound::tally_cost` meets its contract: the maintenance of the units out, and the cheapest run.
-- Assumes nothing.
use Rattle.std.proofs.Common.{rules}
use Rattle.bound.proofs.LeafLaws.{week_paid_lem, paid_fits, paid_most}
use Rattle.bound.proofs.tally_cost.Goals as goal

pub add-requires : goal.add-requires
add-requires c = search paid_fits

pub returns : goal.returns
returns c = record { answer = (search week_paid_lem, search paid_most); right = search rules }
