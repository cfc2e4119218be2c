use Rattle.std.proofs.Common.{rules}
use Rattle.bound.proofs.RunLaws.{placed_none, placed_due, placed_next, placed_all}
use Rattle.bound.proofs.all_rows.Goals as goal

pub loop-j-init : goal.loop-j-init
loop-j-init c = (search rules, search placed_none)

pub placed_rows-next-requires : goal.placed_rows-next-requires
placed_rows-next-requires c = search placed_due

pub loop-j-preserved : goal.loop-j-preserved
loop-j-preserved c = (search rules, search placed_next)

pub returns : goal.returns
returns c = search placed_all
