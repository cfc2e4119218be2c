-- `relaxation::with_unit` meets its contract: the set with the unit, at the least cost that the memo has of it.
-- Assumes nothing.
use Rattle.std.proofs.Common.{rules}
use Rattle.relaxation.proofs.NodeLaws.{price_in_lem, rest_small, known_with}
use Rattle.relaxation.proofs.with_unit.Goals as goal

pub child-requires : goal.child-requires
child-requires c = (search rules, search rules, search rules, search rules, search price_in_lem, search rest_small, search rules)

pub returns : goal.returns
returns c = record { answer = search known_with; right = search rules }
