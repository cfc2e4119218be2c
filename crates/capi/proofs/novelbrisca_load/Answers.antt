-- `capi::novelbrisca_load` meets its contract: the answer and the words of `decoder::load`.
-- Assumes nothing.
use Rattle.codes.proofs.CodeLaws.{codes}
use Rattle.capi.proofs.ExportLaws.{memory}
use Rattle.capi.proofs.novelbrisca_load.Goals as goal

pub returns : goal.returns
returns c = record { answer = search codes; buffer = search memory }
