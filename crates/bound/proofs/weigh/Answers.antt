-- `bound::weigh` meets its contract: a bound below what is wanted stands, and one that reaches it blames those who keep it there.
-- Assumes nothing.
use Rattle.std.proofs.Common.{rules}
use Rattle.bound.proofs.JudgeLaws.{weighed_stands, weighed_bounded, weighed_closed}
use Rattle.bound.proofs.weigh.Goals as goal

pub returns-then-total-wanted : goal.returns-then-total-wanted
returns-then-total-wanted c = search weighed_stands

pub find_blame-requires : goal.find_blame-requires
find_blame-requires c = (search weighed_bounded, search rules)

pub returns : goal.returns
returns c = search weighed_closed
