-- `intake::plan_output` meets its contract: the text with the program's own buffers.
-- Assumes nothing.
use Rattle.intake.proofs.ProgramLaws.{text_printed}
use Rattle.intake.proofs.plan_output.Goals as goal

-- the sizes of the three buffers compute
pub returns : goal.returns
returns c = search text_printed
