use Rattle.std.proofs.Common.{refl, rules}
use Rattle.states.proofs.TotalLaws.{tops_start, tops_more, row_small}
use Rattle.states.proofs.totals.week_tops.Goals as goal

pub loop-k-init : goal.loop-k-init
loop-k-init c = tops_start _ _ refl refl

pub next_tops-requires : goal.next_tops-requires
next_tops-requires c = (search row_small, search rules)

pub loop-k-preserved : goal.loop-k-preserved
loop-k-preserved c = search (rules, tops_more)
