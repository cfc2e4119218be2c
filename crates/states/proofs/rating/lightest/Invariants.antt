-- `states::rating::lightest` meets its contract: the lightest so far is one that counts for something.
-- Assumes nothing.
use Rattle.std.proofs.Common.{◌<◌, IfSome, get_or}
use Rattle.states.proofs.rating.lightest.Given as goal

abbrev pub invariant-loop-k : goal.invariant-loop-k
invariant-loop-k l = IfSome l.best (λ k. (k < 16) × (0 < get_or l.counts k 0))
