-- `capi::novelbrisca_week_costs` meets its contract: the verdict, the words and the scratch of `quotes::quote_weeks`.
-- Assumes nothing.
use Rattle.codes.proofs.CodeLaws.{codes}
use Rattle.capi.proofs.ExportLaws.{memory}
use Rattle.capi.proofs.novelbrisca_week_costs.Goals as goal

pub returns : goal.returns
returns c = record { answer = search codes; buffer = search memory; lent = search memory }
