-- `dual::put_back` meets its contract: the weeks put back are those of the overhaul.
-- Assumes nothing.
use Rattle.std.proofs.Common.{rules}
use Rattle.dual.proofs.BlameLaws.{own_some, own_ends, back_of}
use Rattle.dual.proofs.put_back.Goals as goal

pub overflow_sub-start : goal.overflow_sub-start
overflow_sub-start c = search (rules, own_some)

pub put_weeks_back-requires : goal.put_weeks_back-requires
put_weeks_back-requires c = (search own_ends, search rules)

pub returns : goal.returns
returns c = search back_of
