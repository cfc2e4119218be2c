use Rattle.model.proofs.VerdictLaws.{onward_start, onward_ended}
use Rattle.checker.proofs.JudgingLaws.{cells_fault, cells_next}
use Rattle.checker.proofs.cells_verdict.Goals as goal

pub loop-q-init : goal.loop-q-init
loop-q-init c = search onward_start

pub returns-then-grid-q-gt2 : goal.returns-then-grid-q-gt2
returns-then-grid-q-gt2 c = rw c.at.ensures (search cells_fault)

pub loop-q-preserved : goal.loop-q-preserved
loop-q-preserved c = search cells_next

pub returns : goal.returns
returns c = search onward_ended
