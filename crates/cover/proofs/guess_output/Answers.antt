use Rattle.std.proofs.Common.{rules}
use Rattle.sums.proofs.LoopLaws.{sum_start, sum_next}
use Rattle.sums.proofs.LoopLaws.{sum_ended}
use Rattle.cover.proofs.TableLaws.{caps_below}
use Rattle.cover.proofs.guess_output.Goals as goal

pub loop-i-init : goal.loop-i-init
loop-i-init c = (search rules, search sum_start)

pub add_assign-requires : goal.add_assign-requires
add_assign-requires c = search caps_below

pub loop-i-preserved : goal.loop-i-preserved
loop-i-preserved c = (search rules, search sum_next)

pub returns : goal.returns
returns c = search sum_ended
