-- `instance::layout_for` meets its contract: the record's own sums, none of which wraps, since a product of two values is below 2 ^ 57.
-- Assumes nothing.
use Rattle.std.proofs.Common.{refl, arith}
use Rattle.model.specs.Words.{layout_for}
use Rattle.instance.proofs.PlaceLaws.{table_below}
use Rattle.instance.proofs.layout_for.Goals as goal

pub overflow_mul-cells : goal.overflow_mul-cells
overflow_mul-cells c = omega (arith, table_below _ _ c.requires.0 c.requires.1)

pub overflow_add-runnings : goal.overflow_add-runnings
overflow_add-runnings c = omega (arith, table_below _ _ c.requires.0 c.requires.1)

pub overflow_add-offs : goal.overflow_add-offs
overflow_add-offs c = omega (arith, table_below _ _ c.requires.0 c.requires.1)

pub overflow_add-pairs : goal.overflow_add-pairs
overflow_add-pairs c = omega (arith, table_below _ _ c.requires.0 c.requires.1)

pub returns : goal.returns
unfolding layout_for
returns c = refl
