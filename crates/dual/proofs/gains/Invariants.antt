-- `dual::gains` meets its contract: the sum so far is that of the weeks so far.
-- Assumes nothing.
use Rattle.std.proofs.Common.{◌-◌, ◌*◌, ◌≤◌, ◌≡◌}
use Rattle.sums.specs.Sum.{sum_to, shifted}
use Rattle.tables.specs.Tables.{AMOUNTS}
use Rattle.dual.specs.Blame.{gain_in}
use Rattle.dual.proofs.gains.Given as goal

abbrev pub invariant-loop-k : goal.invariant-loop-k
invariant-loop-k l = (l.k ≤ l.duration) × (l.sum.0 ≤ AMOUNTS * l.k) × (l.sum.0 ≡ sum_to l.k (shifted l.first (gain_in l.tables l.values)))

abbrev pub decreases-loop-k : goal.decreases-loop-k
decreases-loop-k l = l.duration - l.k
