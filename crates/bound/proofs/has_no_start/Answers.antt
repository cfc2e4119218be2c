use Rattle.std.proofs.Common.{refl, rules}
use Rattle.sums.specs.Range.{some_to}
use Rattle.bound.proofs.StartlessLaws.{startless_found, startless_next, startless_ended}
use Rattle.bound.proofs.has_no_start.Goals as goal

pub loop-i-init : goal.loop-i-init
unfolding some_to
loop-i-init c = (search rules, refl)

pub returns-then-starts : goal.returns-then-starts
returns-then-starts c = search startless_found

pub loop-i-preserved : goal.loop-i-preserved
loop-i-preserved c = (search rules, search startless_next)

pub returns : goal.returns
returns c = search startless_ended
