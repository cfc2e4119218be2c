-- `memo::key_of` meets its contract: the sum is the definition itself.
-- Assumes nothing.
use Rattle.std.proofs.Common.{refl}
use Rattle.memo.specs.Memo.{key_of}
use Rattle.memo.proofs.key_of.Goals as goal

pub returns : goal.returns
unfolding key_of
returns c = refl
