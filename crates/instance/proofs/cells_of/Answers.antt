-- `instance::cells_of` meets its contract: the product of two numbers below VALUES.
-- Assumes nothing.
use Rattle.std.proofs.Common.{refl, arith}
use Rattle.instance.proofs.PlaceLaws.{table_below}
use Rattle.instance.proofs.cells_of.Goals as goal

pub overflow_mul-result : goal.overflow_mul-result
overflow_mul-result c = omega (arith, table_below _ _ c.requires.0 c.requires.1)

pub returns : goal.returns
returns c = (refl, table_below _ _ c.requires.0 c.requires.1)
