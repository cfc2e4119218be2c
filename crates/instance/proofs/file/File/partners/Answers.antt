use Rattle.std.proofs.Common.{rules}
use Rattle.sums.proofs.LoopLaws.{gathered_start, gathered_next}
use Rattle.instance.proofs.PartnerLaws.{partners_found}
use Rattle.instance.proofs.file.File.partners.Goals as goal

pub loop-n-init : goal.loop-n-init
loop-n-init c = (search rules, search gathered_start)

pub loop-n-preserved : goal.loop-n-preserved
loop-n-preserved c = (search rules, search gathered_next)

pub returns : goal.returns
returns c = search partners_found
