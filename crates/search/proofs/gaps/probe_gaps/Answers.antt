use Rattle.std.proofs.Common.{rules, refl}
use Rattle.search.proofs.GapLaws.{turn_first, carried_first, gaps_found, turn_next, turn_carried, gaps_vain}
use Rattle.search.proofs.gaps.probe_gaps.Goals as goal

pub loop-at-init : goal.loop-at-init
loop-at-init c = (search turn_first, search carried_first, refl, refl)

pub loop-at-preserved : goal.loop-at-preserved
loop-at-preserved c = (search turn_next, search turn_carried, search rules, search rules)

pub returns-in-Found : goal.returns-in-Found
returns-in-Found c = search gaps_found

pub returns : goal.returns
returns c = search gaps_vain
