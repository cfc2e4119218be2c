-- `capi::novelbrisca_draw` meets its contract: the verdict and the bytes of `schedule::draw`.
-- Assumes nothing.
use Rattle.codes.proofs.CodeLaws.{codes}
use Rattle.capi.proofs.ExportLaws.{memory}
use Rattle.capi.proofs.novelbrisca_draw.Goals as goal

pub returns : goal.returns
returns c = record { answer = search codes; buffer = search memory }
