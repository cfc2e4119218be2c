use Rattle.std.proofs.Common.{rules}
use Rattle.cover.proofs.TableLaws.{ratio_most}
use Rattle.cover.proofs.advise.Goals as goal

pub loop-n-init : goal.loop-n-init
loop-n-init c = (search rules, search rules)

pub loop-n-preserved : goal.loop-n-preserved
loop-n-preserved c = (search rules, search ratio_most)
