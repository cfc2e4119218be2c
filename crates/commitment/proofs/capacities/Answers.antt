use Rattle.std.proofs.Common.{refl, rules}
use Rattle.sums.proofs.TableLaws.{at_most_start, at_most_put}
use Rattle.commitment.proofs.ColumnLaws.{column_start, column_next, column_ended}
use Rattle.commitment.proofs.capacities.Goals as goal

pub loop-i-init : goal.loop-i-init
loop-i-init c = (search rules, (refl, (search column_start, search (rules, at_most_start))))

pub loop-i-preserved : goal.loop-i-preserved
loop-i-preserved c = (search rules, (search rules, (search column_next, search at_most_put)))

pub returns : goal.returns
returns c = (search column_ended, search rules)
