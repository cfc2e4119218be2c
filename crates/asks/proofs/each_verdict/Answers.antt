use Rattle.model.proofs.VerdictLaws.{onward_start, onward_ended, onward_fault, onward_next}
use Rattle.decoder.proofs.FaultLaws.{number_some}
use Rattle.asks.proofs.each_verdict.Goals as goal

pub loop-q-init : goal.loop-q-init
loop-q-init c = search onward_start

pub returns-in-Some : goal.returns-in-Some
returns-in-Some c = rw c.at.ensures (search (onward_fault, number_some, c.in-Some.ensures))

pub loop-q-preserved : goal.loop-q-preserved
loop-q-preserved c = search (onward_next, c.in_default.ensures)

pub returns : goal.returns
returns c = search onward_ended
