-- `words::kind_of` meets its contract: the definition's own quotient.
-- Assumes nothing.
use Rattle.std.proofs.Common.{rules}
use Rattle.model.specs.Words.{kind_of}
use Rattle.words.proofs.kind_of.Goals as goal

pub returns : goal.returns
unfolding kind_of
returns c = search rules
