-- `bound::tallies::word_with` meets its contract: a tally of a file's week fits a word, which holds it.
-- Assumes nothing.
use Rattle.std.proofs.Common.{rules}
use Rattle.bound.proofs.RowLaws.{tally_read, packs_joined, word_tallies, word_joins}
use Rattle.bound.proofs.tallies.word_with.Goals as goal

pub with_unit-requires : goal.with_unit-requires
with_unit-requires c = record { t_lt_weeks = search rules; tallies = search tally_read }

pub packed-requires : goal.packed-requires
packed-requires c = search (rules, packs_joined)

pub returns : goal.returns
returns c = (search (rules, word_tallies), search (rules, word_joins))
