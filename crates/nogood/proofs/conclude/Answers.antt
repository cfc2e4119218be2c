-- `nogood::conclude` meets its contract: nothing is written under a limit of 0, and the bound under another.
-- Assumes nothing.
use Rattle.std.proofs.Common.{rules}
use Rattle.nogood.proofs.NotingLaws.{end_none_used, end_none_words, end_some_used, end_some_words}
use Rattle.nogood.proofs.conclude.Goals as goal

pub returns-then-limit-lt1 : goal.returns-then-limit-lt1
returns-then-limit-lt1 c = record { place = search (rules, end_none_used); words = search (rules, end_none_words) }

pub returns : goal.returns
returns c = record { place = search end_some_used; words = search end_some_words }
