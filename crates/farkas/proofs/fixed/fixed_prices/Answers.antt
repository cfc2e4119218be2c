use Rattle.std.proofs.Common.{rules}
use Rattle.prices.proofs.RangeLaws.{moved_on, moved_priced}
use Rattle.farkas.proofs.TestLaws.{moved_file}
use Rattle.farkas.proofs.fixed.fixed_prices.Goals as goal

pub loop-t-init : goal.loop-t-init
loop-t-init c = (search rules, search moved_file)

pub loop-t-preserved : goal.loop-t-preserved
loop-t-preserved c = (search rules, search moved_on)

pub returns : goal.returns
returns c = search moved_priced
