-- `walk::take_better` meets its contract: the best so far, and its blame.
-- Assumes nothing.
use Rattle.std.proofs.Common.{rules}
use Rattle.walk.proofs.JudgedLaws.{better_small, better_of}
use Rattle.walk.proofs.take_better.Goals as goal

pub find_blame-b-requires : goal.find_blame-b-requires
find_blame-b-requires c = (search rules, search better_small)

pub returns : goal.returns
returns c = search better_of
