-- `decoder::next_at` meets its contract: the words of the stage are passed.
-- Assumes nothing.
use Rattle.decoder.proofs.StepLaws.{open_inside, stage_clear}
use Rattle.std.proofs.Common.{rules}
use Rattle.decoder.proofs.next_at.Goals as goal

pub stage_at-s-requires : goal.stage_at-s-requires
stage_at-s-requires c = (search rules, search open_inside)

pub pass_stage-requires : goal.pass_stage-requires
pass_stage-requires c = record { clear = search stage_clear; l_value = (search rules, search open_inside, search rules) }
