-- `relaxation::choose_any` meets its contract: either way a lower bound of the week.
-- Assumes nothing.
use Rattle.std.proofs.Common.{rules}
use Rattle.memo.proofs.EntryLaws.{others_same}
use Rattle.relaxation.proofs.ValueLaws.{least_full}
use Rattle.relaxation.proofs.choose_any.Goals as goal

pub returns-then-y-eq0 : goal.returns-then-y-eq0
returns-then-y-eq0 c = record { answer = (search least_full, search rules); right = (search rules, search others_same) }
