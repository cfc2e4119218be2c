-- `checker::judge_text` meets its contract: the line of the judgement.
-- Assumes nothing.
use Rattle.checker.proofs.TextLaws.{text_sound, text_rule, text_refused}
use Rattle.checker.proofs.judge_text.Goals as goal

pub returns-in-Ok-Sound : goal.returns-in-Ok-Sound
returns-in-Ok-Sound c = let q = rw c.in-Ok-Sound.field-0-is at c.in-Ok-Sound.ensures in search (text_sound, q)

pub returns-in-Ok-Breaks : goal.returns-in-Ok-Breaks
returns-in-Ok-Breaks c = let q = rw c.in-Ok-Breaks.field-0-is at c.in-Ok-Breaks.ensures in search (text_rule, q)

pub returns-in-Err : goal.returns-in-Err
returns-in-Err c = search (text_refused, c.in-Err.ensures)
