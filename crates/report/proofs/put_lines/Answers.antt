use Rattle.std.proofs.Common.{refl, rules}
use Rattle.report.proofs.LineLaws.{lines_start, lines_whole, lines_few, lines_room, lines_next, lines_ended}
use Rattle.report.proofs.put_lines.Goals as goal

pub loop-k-init : goal.loop-k-init
loop-k-init c = (search rules, (search rules, (search rules, (refl, search lines_start))))

pub put_line-next-requires : goal.put_line-next-requires
put_line-next-requires c = (search lines_whole, search lines_room, search lines_few)

pub loop-k-preserved : goal.loop-k-preserved
loop-k-preserved c = (search rules, (search rules, (search rules, (search rules, search lines_next))))

pub returns : goal.returns
returns c = search lines_ended
