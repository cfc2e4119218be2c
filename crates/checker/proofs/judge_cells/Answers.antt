-- `checker::judge_cells` meets its contract: a broken formula first, then the cost.
-- Assumes nothing.
use Rattle.checker.proofs.JudgingLaws.{judged_breaks, judged_sound}
use Rattle.checker.proofs.judge_cells.Goals as goal

pub returns-then-rule-ne0 : goal.returns-then-rule-ne0
returns-then-rule-ne0 c = search judged_breaks

pub returns : goal.returns
returns c = search judged_sound
