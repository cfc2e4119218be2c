use Rattle.std.proofs.Common.{refl, rules}
use Rattle.sums.proofs.LoopLaws.{sum_start}
use Rattle.memo.proofs.EntryLaws.{others_same, others_trans}
use Rattle.bound.proofs.LeafLaws.{row_tallies, paid_more, paid_ended}
use Rattle.bound.proofs.cost.Goals as goal

pub loop-t-init : goal.loop-t-init
loop-t-init c = (search rules, search rules, refl, search rules, search others_same, search rules, search sum_start)

pub tally_cost-requires : goal.tally_cost-requires
tally_cost-requires c = (search rules, search row_tallies, search rules)

pub loop-t-preserved : goal.loop-t-preserved
loop-t-preserved c = (search rules, search rules, search rules, search rules, search others_trans, search rules, search paid_more)

pub returns : goal.returns
returns c = record { answer = search paid_ended; right = (search rules, search rules) }
