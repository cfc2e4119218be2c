use Rattle.std.proofs.Common.{refl, rules}
use Rattle.sums.proofs.TableLaws.{at_most_start, at_most_put}
use Rattle.commitment.proofs.ColumnLaws.{column_start, column_ended, weight_next}
use Rattle.commitment.proofs.ColumnLaws.{number_start, number_next, number_most}
use Rattle.commitment.proofs.weights.Goals as goal

pub loop-i-init : goal.loop-i-init
loop-i-init c = (search rules, (refl, (search number_start, (search column_start, search (rules, at_most_start)))))

pub weight-requires : goal.weight-requires
weight-requires c = (search rules, search number_most)

pub next_number-number-requires : goal.next_number-number-requires
next_number-number-requires c = search number_most

pub loop-i-preserved : goal.loop-i-preserved
loop-i-preserved c = (search rules, (search rules, (search number_next, (search weight_next, search at_most_put))))

pub returns : goal.returns
returns c = (search column_ended, search rules)
