use Rattle.std.proofs.Common.{rules}
use Rattle.farkas.proofs.TestLaws.{summed_start, summed_next, summed_ended, unit_at}
use Rattle.farkas.proofs.units_sum.Goals as goal

pub loop-i-init : goal.loop-i-init
loop-i-init c = (search rules, search rules, search summed_start)

pub free_unit-least-requires : goal.free_unit-least-requires
free_unit-least-requires c = search unit_at

pub loop-i-preserved : goal.loop-i-preserved
loop-i-preserved c = (search rules, search rules, search summed_next)

pub returns : goal.returns
returns c = (search summed_ended, search rules)
