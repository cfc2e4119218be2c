use Rattle.std.proofs.Common.{rules}
use Rattle.tables.proofs.TableLaws.{unit_start, unit_next, unit_ended}
use Rattle.tables.proofs.unit_total.Goals as goal

pub loop-t-init : goal.loop-t-init
loop-t-init c = (search rules, search rules, search rules, search unit_start)

pub loop-t-preserved : goal.loop-t-preserved
loop-t-preserved c = (search rules, search rules, search rules, search unit_next)

pub returns : goal.returns
returns c = (search unit_ended, search rules)
