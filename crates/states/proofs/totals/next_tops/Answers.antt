use Rattle.std.proofs.Common.{rules}
use Rattle.states.proofs.TotalLaws.{next_more}
use Rattle.states.proofs.totals.next_tops.Goals as goal

pub loop-j-preserved : goal.loop-j-preserved
loop-j-preserved c = search (rules, next_more)
