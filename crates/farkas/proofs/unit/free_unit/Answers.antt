use Rattle.std.proofs.Common.{rules}
use Rattle.dual.proofs.CostLaws.{starts_begin, starts_next, least_at}
use Rattle.farkas.proofs.UnitLaws.{start_fits, free_start, free_next, free_ended, free_most}
use Rattle.farkas.proofs.unit.free_unit.Goals as goal

pub loop-s-init : goal.loop-s-init
loop-s-init c = (search starts_begin, search free_start)

pub span_price-price-requires : goal.span_price-price-requires
span_price-price-requires c = (search least_at, search rules)

pub overflow_cast-s : goal.overflow_cast-s
overflow_cast-s c = search start_fits

pub loop-s-preserved : goal.loop-s-preserved
loop-s-preserved c = (search starts_next, search free_next)

pub returns : goal.returns
returns c = (search free_ended, search free_most)
