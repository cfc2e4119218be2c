use Rattle.std.proofs.Common.{rules}
use Rattle.sums.proofs.LoopLaws.{sum_start, sum_next}
use Rattle.instance.proofs.RunLaws.{output_ended}
use Rattle.instance.proofs.file.File.run_output.Goals as goal

pub loop-i-init : goal.loop-i-init
loop-i-init c = (search rules, search rules, search sum_start)

pub loop-i-preserved : goal.loop-i-preserved
loop-i-preserved c = (search rules, search rules, search sum_next)

pub returns : goal.returns
returns c = (search output_ended, search rules)
