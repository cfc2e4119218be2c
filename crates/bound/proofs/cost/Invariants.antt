-- `bound::cost` meets its contract: the sum so far is that of the weeks so far.
-- Assumes nothing.
use Rattle.std.proofs.Common.{◌-◌, ◌*◌, ◌≤◌, ◌≡◌, length}
use Rattle.sums.specs.Sum.{sum_to}
use Rattle.instance.specs.File.{problem}
use Rattle.memo.specs.Memo.{Right, Others}
use Rattle.bound.specs.Rows.{MOST_WEEK}
use Rattle.bound.proofs.LeafLaws.{row_paid}
use Rattle.bound.proofs.cost.Given as goal

abbrev pub invariant-loop-t : goal.invariant-loop-t
invariant-loop-t l = (l.t ≤ l.weeks) × (l.weeks ≤ 52) × (length l.memo ≡ length l.initial.memo) × Right (problem l.file) l.memo × Others l.initial.memo l.memo
    × (l.sum.0 ≤ MOST_WEEK * l.t) × (l.sum.0 ≡ sum_to l.t (row_paid (problem l.file) l.rows))

abbrev pub decreases-loop-t : goal.decreases-loop-t
decreases-loop-t l = l.weeks - l.t
