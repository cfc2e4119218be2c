-- `instance::kind_at` meets its contract: the kind of the word there, or 0 past the end.
-- Assumes nothing.
use Rattle.std.proofs.Common.{rules}
use Rattle.instance.proofs.OffLaws.{kind_past}
use Rattle.model.specs.Words.{kind_at}
use Rattle.instance.proofs.kind_at.Goals as goal

pub returns-then-q-words : goal.returns-then-q-words
unfolding kind_at
returns-then-q-words c = search rules

pub returns : goal.returns
unfolding kind_at
returns c = search kind_past
