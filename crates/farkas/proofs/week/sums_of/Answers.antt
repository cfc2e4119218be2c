use Rattle.std.proofs.Common.{rules}
use Rattle.farkas.proofs.SumsLaws.{sums_start, sums_ended}
use Rattle.farkas.proofs.week.sums_of.Goals as goal

pub loop-i-init : goal.loop-i-init
loop-i-init c = (search rules, search sums_start)

pub returns : goal.returns
returns c = search sums_ended
