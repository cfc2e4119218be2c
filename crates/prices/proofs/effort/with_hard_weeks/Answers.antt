use Rattle.std.proofs.Common.{rules}
use Rattle.prices.proofs.RangeLaws.{hard_start, hard_next}
use Rattle.prices.proofs.effort.with_hard_weeks.Goals as goal

pub loop-t-init : goal.loop-t-init
loop-t-init c = (search rules, search hard_start)

pub loop-t-preserved : goal.loop-t-preserved
loop-t-preserved c = (search rules, search hard_next)
