use Rattle.std.proofs.Common.{rules}
use Rattle.farkas.proofs.TestLaws.{summed_start, summed_next, summed_ended, week_at}
use Rattle.farkas.proofs.weeks_sum.Goals as goal

pub loop-t-init : goal.loop-t-init
loop-t-init c = (search rules, search rules, search summed_start)

pub free_week-least-requires : goal.free_week-least-requires
free_week-least-requires c = search week_at

pub loop-t-preserved : goal.loop-t-preserved
loop-t-preserved c = (search rules, search rules, search summed_next)

pub returns : goal.returns
returns c = (search summed_ended, search rules)
