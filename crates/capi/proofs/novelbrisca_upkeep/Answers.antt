-- `capi::novelbrisca_upkeep` meets its contract: the quote of `quotes::upkeep`.
-- Assumes nothing.
use Rattle.codes.proofs.CodeLaws.{codes}
use Rattle.capi.proofs.novelbrisca_upkeep.Goals as goal

pub returns : goal.returns
returns c = search codes
