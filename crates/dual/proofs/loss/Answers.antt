-- `dual::loss` meets its contract: two sums added.
-- Assumes nothing.
use Rattle.std.proofs.Common.{rules}
use Rattle.dual.proofs.BlameLaws.{own_some, own_ends, own_few, loss_is}
use Rattle.dual.proofs.loss.Goals as goal

pub excess-own-requires : goal.excess-own-requires
excess-own-requires c = (search rules, search own_few)

pub overflow_sub-start : goal.overflow_sub-start
overflow_sub-start c = search (rules, own_some)

pub gains-requires : goal.gains-requires
gains-requires c = (search own_ends, search rules)

pub returns : goal.returns
returns c = (search loss_is, search rules)
