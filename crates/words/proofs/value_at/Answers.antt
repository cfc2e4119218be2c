-- `words::value_at` meets its contract: within the list the word's value, past its end 0.
-- Assumes nothing.
use Rattle.std.proofs.Common.{rules}
use lib.ListN.{get_or-eq_default}
use Rattle.model.specs.Words.{value_at}
use Rattle.words.proofs.value_at.Goals as goal

pub returns-then-q-words : goal.returns-then-q-words
unfolding value_at
returns-then-q-words c = search rules

pub returns : goal.returns
unfolding value_at
returns c = (search get_or-eq_default, search rules)
