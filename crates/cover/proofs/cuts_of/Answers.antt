use Rattle.std.proofs.Common.{rules}
use Rattle.cover.proofs.TableLaws.{cuts_start, cuts_ended}
use Rattle.cover.proofs.cuts_of.Goals as goal

pub loop-k-init : goal.loop-k-init
loop-k-init c = (search rules, search cuts_start)

pub loop-k-preserved : goal.loop-k-preserved
loop-k-preserved c = (search rules, search rules)

pub returns : goal.returns
returns c = search cuts_ended
