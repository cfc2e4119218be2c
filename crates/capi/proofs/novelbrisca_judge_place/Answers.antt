-- `capi::novelbrisca_judge_place` meets its contract: the judgement of `checker::judge`.
-- Assumes nothing.
use Rattle.codes.proofs.CodeLaws.{codes}
use Rattle.capi.proofs.novelbrisca_judge_place.Goals as goal

pub returns : goal.returns
returns c = search codes
