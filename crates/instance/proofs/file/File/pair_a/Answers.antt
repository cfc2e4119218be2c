-- `instance::pair_a` meets its contract: the upper part of the pair's value, 1 or more in an accepted file, less 1.
-- Assumes nothing.
use Rattle.instance.proofs.FigureLaws.{pair_a_at, pair_a_most}
use Rattle.instance.proofs.PlaceLaws.{pair_a_above}
use Rattle.instance.proofs.file.File.pair_a.Goals as goal

pub overflow_sub-result : goal.overflow_sub-result
overflow_sub-result c = search pair_a_above

pub returns : goal.returns
returns c = (search pair_a_at, search pair_a_most)
