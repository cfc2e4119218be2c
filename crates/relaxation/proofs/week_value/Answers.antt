-- `relaxation::week_value` meets its contract: computed, or found in an entry that recalls, as a memo with the new entry does.
-- Assumes nothing.
use Rattle.std.proofs.Common.{rules}
use Rattle.relaxation.proofs.ValueLaws.{value_found, recalls_others, recalls_put}
use Rattle.relaxation.proofs.week_value.Goals as goal

pub returns-then-out-ge-SETS : goal.returns-then-out-ge-SETS
returns-then-out-ge-SETS c = record { answer = search rules; recalls = search recalls_others }

pub returns-in-Some : goal.returns-in-Some
returns-in-Some c = record { answer = search value_found; recalls = search rules }

pub returns : goal.returns
returns c = record { answer = search rules; recalls = search recalls_put }
