use Rattle.std.proofs.Common.{rules}
use Rattle.cover.proofs.lightest.Goals as goal

pub loop-i-init : goal.loop-i-init
loop-i-init c = (search rules, search rules)

pub loop-i-preserved : goal.loop-i-preserved
loop-i-preserved c = (search rules, search rules)
