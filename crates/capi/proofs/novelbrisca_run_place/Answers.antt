-- `capi::novelbrisca_run_place` meets its contract: the verdict of `asks::run_verdict`.
-- Assumes nothing.
use Rattle.codes.proofs.CodeLaws.{codes}
use Rattle.capi.proofs.novelbrisca_run_place.Goals as goal

pub returns : goal.returns
returns c = search codes
