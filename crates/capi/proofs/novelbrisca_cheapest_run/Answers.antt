-- `capi::novelbrisca_cheapest_run` meets its contract: the quote of `quotes::cheapest_run`.
-- Assumes nothing.
use Rattle.codes.proofs.CodeLaws.{codes}
use Rattle.capi.proofs.novelbrisca_cheapest_run.Goals as goal

pub returns : goal.returns
returns c = search codes
