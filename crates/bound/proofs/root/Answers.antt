use Rattle.std.proofs.Common.{rules}
use Rattle.bound.proofs.RootedLaws.{root_start, root_fits, root_next, root_shut, root_blames, root_stands}
use Rattle.bound.proofs.root.Goals as goal

pub loop-t-init : goal.loop-t-init
loop-t-init c = (search rules, search rules, search root_start)

pub returns-then-value-ge-NO_RUN : goal.returns-then-value-ge-NO_RUN
returns-then-value-ge-NO_RUN c = search root_shut

pub add_assign-requires : goal.add_assign-requires
add_assign-requires c = search root_fits

pub loop-t-preserved : goal.loop-t-preserved
loop-t-preserved c = (search rules, search rules, search root_next)

pub returns-then-wanted-sum : goal.returns-then-wanted-sum
returns-then-wanted-sum c = search root_blames

pub returns : goal.returns
returns c = search root_stands
