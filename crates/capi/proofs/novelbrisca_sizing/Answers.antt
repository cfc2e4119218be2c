-- `capi::novelbrisca_sizing` meets its contract: the reply of `sizing::sizing`.
-- Assumes nothing.
use Rattle.codes.proofs.CodeLaws.{codes}
use Rattle.capi.proofs.novelbrisca_sizing.Goals as goal

pub returns : goal.returns
returns c = search codes
