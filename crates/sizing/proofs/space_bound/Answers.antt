use Rattle.std.proofs.Common.{rules}
use Rattle.sizing.proofs.SizingLaws.{power_start, sum_start, cap_fits, cap_power, cap_sum, cap_ended}
use Rattle.sizing.proofs.space_bound.Goals as goal

pub loop-j-init : goal.loop-j-init
loop-j-init c = (search rules, search rules, search rules, search power_start, search sum_start)

pub overflow_mul-power : goal.overflow_mul-power
overflow_mul-power c = search cap_fits

pub loop-j-preserved : goal.loop-j-preserved
loop-j-preserved c = (search rules, search rules, search rules, search cap_power, search cap_sum)

pub returns : goal.returns
returns c = search cap_ended
