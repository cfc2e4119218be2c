-- `probe::weigh` meets its contract: the plan is weighed against the limit, and the probe goes on or stops.
-- Assumes nothing.
use Rattle.std.proofs.Common.{rules}
use Rattle.probe.proofs.JudgedLaws.{weigh_leaf, weighed_stops}
use Rattle.probe.proofs.weigh.Goals as goal

pub close_leaf-step-requires : goal.close_leaf-step-requires
close_leaf-step-requires c = search weigh_leaf

pub returns : goal.returns
returns c = record { answer = search weighed_stops; recalls = search rules }
