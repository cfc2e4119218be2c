use Rattle.std.proofs.Common.{refl, rules}
use Rattle.dual.proofs.RootLaws.{roots_start, roots_ended}
use Rattle.dual.proofs.put_roots.Goals as goal

pub loop-t-init : goal.loop-t-init
loop-t-init c = (search rules, search roots_start, search rules, refl)

pub returns : goal.returns
returns c = record { answer = search roots_ended; recalls = search rules }
