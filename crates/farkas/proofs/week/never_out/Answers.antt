use Rattle.std.proofs.Common.{rules}
use Rattle.farkas.proofs.SumsLaws.{never_start, never_due, never_ended}
use Rattle.farkas.proofs.week.never_out.Goals as goal

pub loop-i-init : goal.loop-i-init
loop-i-init c = (search rules, search never_start)

pub never_with-never-requires : goal.never_with-never-requires
never_with-never-requires c = search never_due

pub returns : goal.returns
returns c = search never_ended
