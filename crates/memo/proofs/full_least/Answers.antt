-- `memo::full_least` meets its contract: computed, or found in an entry that is right, which a new entry leaves so.
-- Assumes nothing.
use Rattle.std.proofs.Common.{rules}
use Rattle.memo.proofs.EntryLaws.{found_cost, found_small, right_put, others_same, others_put}
use Rattle.memo.proofs.full_least.Goals as goal

pub returns-in-Some : goal.returns-in-Some
returns-in-Some c = record { answer = (search found_cost, search found_small); right = (search rules, search others_same) }

pub returns : goal.returns
returns c = record { answer = (search rules, search rules); right = (search right_put, search others_put) }
