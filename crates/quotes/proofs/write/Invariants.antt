-- `quotes::write` meets its contract: the costs written so far are the first, the rest is as it was lent, and the memo stays right.
-- Assumes nothing.
use Rattle.std.proofs.Common.{◌-◌, ◌≤◌, ◌≡◌, ◌++◌, length, drop}
use Rattle.sums.specs.Range.{list_to}
use Rattle.instance.specs.File.{problem}
use Rattle.memo.specs.Memo.{Right}
use Rattle.quotes.specs.Quotes.{cost_at}
use Rattle.quotes.proofs.write.Given as goal

abbrev pub invariant-loop-k : goal.invariant-loop-k
invariant-loop-k l =
    (l.k ≤ l.n) × ((length l.costs ≡ length l.initial.costs) × ((length l.scratch ≡ length l.initial.scratch)
    × ((l.costs ≡ list_to l.k (cost_at (problem l.file) l.queries) ++ drop l.k l.initial.costs) × Right (problem l.file) l.scratch)))

abbrev pub decreases-loop-k : goal.decreases-loop-k
decreases-loop-k l = l.n - l.k
