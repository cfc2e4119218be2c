-- `nogood::note` meets its contract: a dead end that is not noted changes nothing, and one that is stands behind the others.
-- Assumes nothing.
use Rattle.std.proofs.Common.{rules}
use Rattle.nogood.proofs.NotingLaws.{kept_used, kept_words, no_bound, no_choice, many_choices, no_space, noted_used_lem, noted_words}
use Rattle.nogood.proofs.note.Goals as goal

pub returns-then-limit-eq0 : goal.returns-then-limit-eq0
returns-then-limit-eq0 c = record { place = search (kept_used, no_bound); words = search (kept_words, no_bound) }

pub returns-then-n-lt1 : goal.returns-then-n-lt1
returns-then-n-lt1 c = record { place = search (kept_used, no_choice); words = search (kept_words, no_choice) }

pub returns-then-n-gt3 : goal.returns-then-n-gt3
returns-then-n-gt3 c = record { place = search (rules, kept_used, many_choices); words = search (rules, kept_words, many_choices) }

pub returns-then-table-used : goal.returns-then-table-used
returns-then-table-used c = record { place = search (rules, kept_used, no_space); words = search (rules, kept_words, no_space) }

pub returns : goal.returns
returns c = record { place = search noted_used_lem; words = search noted_words }
