-- `cover::weight_with` meets its contract: what has been taken and one weight more fit a word.
-- Assumes nothing.
use Rattle.std.proofs.Common.{rules}
use Rattle.sums.specs.Table.{entry}
use Rattle.cover.proofs.TableLaws.{weight_more}
use Rattle.cover.proofs.weight_with.Goals as goal

pub overflow_add-result : goal.overflow_add-result
overflow_add-result c = search (rules, weight_more)

pub returns : goal.returns
unfolding entry
returns c = search rules
