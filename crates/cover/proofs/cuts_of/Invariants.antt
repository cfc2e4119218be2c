-- `cover::cuts_of` meets its contract: the table has what the units so far give and yield.
-- Assumes nothing.
use Rattle.std.proofs.Common.{◌-◌, ◌≤◌}
use Rattle.sums.specs.NumSet.{complement, has}
use Rattle.sums.specs.Table.{entry}
use Rattle.cover.specs.Tables.{surplus, Cuts}
use Rattle.cover.proofs.cuts_of.Given as goal

abbrev pub invariant-loop-k : goal.invariant-loop-k
invariant-loop-k l =
    (l.k ≤ 16) × Cuts (complement (has l.out)) (entry l.caps) (surplus l.rate (entry l.caps) (entry l.weights)) l.rate l.k l.cuts

abbrev pub decreases-loop-k : goal.decreases-loop-k
decreases-loop-k l = 16 - l.k
