-- `cover::hopeless` meets its contract: both sums fit a word, and the test is the comparison itself.
-- Assumes nothing.
use Rattle.std.proofs.Common.{rules}
use Rattle.cover.proofs.TableLaws.{need_fits, weight_fits}
use Rattle.cover.proofs.hopeless.Goals as goal

pub overflow_mul-result : goal.overflow_mul-result
overflow_mul-result c = search (rules, need_fits)

pub overflow_add-result-2 : goal.overflow_add-result-2
overflow_add-result-2 c = search (rules, weight_fits)
