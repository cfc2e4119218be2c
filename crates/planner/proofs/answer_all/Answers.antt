-- `planner::answer_all` meets its contract: table and scratch are emptied before the run.
-- Assumes nothing.
use Rattle.std.proofs.Common.{rules}
use Rattle.planner.proofs.GoingLaws.{cleared_all, cleared_admitted, cleared_kept}
use Rattle.planner.proofs.answer_all.Goals as goal

pub answer_priced-requires : goal.answer_priced-requires
answer_priced-requires c = (search cleared_admitted, search cleared_all, search cleared_all)

pub returns : goal.returns
returns c = record { answered = search rules; table_len_unchanged = search cleared_kept }
