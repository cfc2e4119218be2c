use Rattle.nogood.proofs.RecallLaws.{reading_start, reading_next, reading_end, reading_out}
use Rattle.nogood.proofs.matching.Goals as goal

pub loop-m-init : goal.loop-m-init
loop-m-init c = search reading_start

pub returns-then-kind_of-ne14 : goal.returns-then-kind_of-ne14
returns-then-kind_of-ne14 c = search reading_end

pub loop-m-preserved : goal.loop-m-preserved
loop-m-preserved c = search (reading_next, c.in_ok-unit_met.ensures)

pub returns : goal.returns
returns c = search reading_out
