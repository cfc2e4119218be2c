-- `instance::cell_place` meets its contract: the cell lies in the table, so neither product nor sum wraps.
-- Assumes nothing.
use Rattle.std.proofs.Common.{refl}
use Rattle.instance.proofs.PlaceLaws.{cell_below, cell_fits, row_fits}
use Rattle.instance.proofs.cell_place.Goals as goal

pub overflow_mul-result : goal.overflow_mul-result
overflow_mul-result c = search row_fits

pub overflow_add-result : goal.overflow_add-result
overflow_add-result c = search cell_fits

pub returns : goal.returns
returns c = (refl, search cell_below)
