-- `relaxation::best_choice` meets its contract: without a run its cost stands for none, and with one the choice goes on from it.
-- Assumes nothing.
use Rattle.std.proofs.Common.{rules}
use Rattle.memo.proofs.EntryLaws.{others_trans}
use Rattle.relaxation.proofs.ValueLaws.{value_plain}
use Rattle.relaxation.proofs.best_choice.Goals as goal

pub returns-then-cost-ge-NO_RUN : goal.returns-then-cost-ge-NO_RUN
returns-then-cost-ge-NO_RUN c = record { answer = search value_plain; right = search rules }

pub returns : goal.returns
returns c = record { answer = search rules; right = (search rules, search others_trans) }
