-- `capi::novelbrisca_read` meets its contract: the verdict of `decoder::read`.
-- Assumes nothing.
use Rattle.codes.proofs.CodeLaws.{codes}
use Rattle.capi.proofs.novelbrisca_read.Goals as goal

pub returns : goal.returns
returns c = search codes
