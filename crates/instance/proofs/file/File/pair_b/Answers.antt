-- `instance::pair_b` meets its contract: the lower part of the pair's value, 1 or more in an accepted file, less 1.
-- Assumes nothing.
use Rattle.instance.proofs.FigureLaws.{pair_b_at, pair_b_most}
use Rattle.instance.proofs.PlaceLaws.{pair_b_above}
use Rattle.instance.proofs.file.File.pair_b.Goals as goal

pub overflow_sub-result : goal.overflow_sub-result
overflow_sub-result c = search pair_b_above

pub returns : goal.returns
returns c = (search pair_b_at, search pair_b_most)
