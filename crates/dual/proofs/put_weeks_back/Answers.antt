use Rattle.std.proofs.Common.{rules}
use Rattle.dual.proofs.BlameLaws.{back_start, back_next, back_ended}
use Rattle.dual.proofs.put_weeks_back.Goals as goal

pub loop-k-init : goal.loop-k-init
loop-k-init c = (search rules, search back_start)

pub loop-k-preserved : goal.loop-k-preserved
loop-k-preserved c = (search rules, search back_next)

pub returns : goal.returns
returns c = search back_ended
