-- `decoder::stages::stage_at` meets its contract: the tests are those of the word there.
-- Assumes nothing.
use Rattle.decoder.proofs.StepLaws.{laid_here, fault_here, onward_here}
use Rattle.std.proofs.Common.{rules}
use Rattle.decoder.proofs.stages.stage_at.Goals as goal

pub stage_for-requires : goal.stage_for-requires
stage_for-requires c = record { laid = search laid_here; q_bound = search rules }

pub returns : goal.returns
returns c = record { test = search fault_here; onward = search onward_here }
