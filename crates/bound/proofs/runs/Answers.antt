use Rattle.std.proofs.Common.{refl, rules}
use Rattle.bound.proofs.RunLaws.{runs_start, runs_next, runs_ended}
use Rattle.bound.proofs.runs.Goals as goal

pub loop-t-init : goal.loop-t-init
loop-t-init c = (search rules, search rules, refl, search runs_start)

-- a search that is not given the invariant takes too many steps to hold the table against it
pub loop-t-preserved : goal.loop-t-preserved
loop-t-preserved c = (search rules, search rules, search rules, search (runs_next, c.loop-t.invariant.3))

pub returns : goal.returns
returns c = search runs_ended
