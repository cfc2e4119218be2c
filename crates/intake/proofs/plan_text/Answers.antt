-- `intake::plan_text` meets its contract: the line of a refusal, or the lines of all asks.
-- Assumes nothing.
use Rattle.std.proofs.Common.{rules}
use Rattle.intake.proofs.TextLaws.{text_refused, text_lines, text_listed}
use Rattle.intake.proofs.plan_text.Goals as goal

pub put_lines-requires : goal.put_lines-requires
put_lines-requires c = (search (text_listed, c.in-Ok.ensures.sized.by), search rules)

pub returns-in-Ok : goal.returns-in-Ok
returns-in-Ok c = search (text_lines, c.in-Ok.ensures.sized.by, c.in-Ok.ensures.ran_input)

pub returns-in-Err : goal.returns-in-Err
returns-in-Err c = search (text_refused, c.in-Err.ensures.ran_input)
