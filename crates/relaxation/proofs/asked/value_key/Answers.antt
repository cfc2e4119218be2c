-- `relaxation::asked::value_key` meets its contract: the sum is the definition itself.
-- Assumes nothing.
use Rattle.std.proofs.Common.{refl}
use Rattle.memo.specs.Memo.{key_of}
use Rattle.relaxation.specs.Relaxed.{value_key}
use Rattle.relaxation.proofs.asked.value_key.Goals as goal

pub returns : goal.returns
unfolding value_key key_of
returns c = refl
