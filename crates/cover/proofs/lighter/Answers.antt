-- `cover::lighter` meets its contract: a product of a weight and a capacity fits a word.
-- Assumes nothing.
use Rattle.std.proofs.Common.{rules}
use Rattle.cover.proofs.TableLaws.{weigh_fits}
use Rattle.cover.proofs.lighter.Goals as goal

pub overflow_mul-weights : goal.overflow_mul-weights
overflow_mul-weights c = search (rules, weigh_fits)

pub overflow_mul-weights-2 : goal.overflow_mul-weights-2
overflow_mul-weights-2 c = search (rules, weigh_fits)
