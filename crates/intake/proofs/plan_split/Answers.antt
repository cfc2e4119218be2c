-- `intake::plan_split` meets its contract: the run on the two parts.
-- Assumes nothing.
use Rattle.std.proofs.Common.{rules}
use Rattle.intake.proofs.IntakeLaws.{ran_split}
use Rattle.intake.proofs.plan_split.Goals as goal

pub returns : goal.returns
returns c = record { ran_file = search ran_split; sized = search rules }
