-- `words::value_of` meets its contract: the definition's own remainder.
-- Assumes nothing.
use Rattle.std.proofs.Common.{rules}
use Rattle.model.specs.Words.{value_of}
use Rattle.words.proofs.value_of.Goals as goal

pub returns : goal.returns
unfolding value_of
returns c = search rules
