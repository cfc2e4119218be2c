-- `capi::novelbrisca_run` meets its contract: the verdict and the lent words of `planner::run`.
-- Assumes nothing.
use Rattle.codes.proofs.CodeLaws.{codes}
use Rattle.capi.proofs.ExportLaws.{memory}
use Rattle.capi.proofs.novelbrisca_run.Goals as goal

pub returns : goal.returns
returns c = record { answer = search codes; lent = search memory }
