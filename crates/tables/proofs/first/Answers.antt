use Rattle.std.proofs.Common.{rules}
use Rattle.tables.proofs.TableLaws.{first_start, first_next, first_ended}
use Rattle.tables.proofs.first.Goals as goal

pub loop-i-init : goal.loop-i-init
loop-i-init c = (search rules, search first_start)

pub loop-i-preserved : goal.loop-i-preserved
loop-i-preserved c = (search rules, search first_next)

pub returns : goal.returns
returns c = search first_ended
