-- `relaxation::choose` and `relaxation::choose_with`, which call each other, meet their contracts: each unit tried or passed over leaves a lower
-- bound for the sets whose further units lie below the next; the units left to try fall.
-- Assumes nothing.
use Rattle.std.proofs.Common.{◌+◌, ◌-◌, ◌*◌, ◌≤◌, ◌≡◌, length}
use Rattle.sums.specs.NumSet.{has}
use Rattle.instance.specs.File.{problem}
use Rattle.memo.specs.Memo.{Right, Others}
use Rattle.tables.specs.Tables.{price_in}
use Rattle.relaxation.specs.Choosing.{Floor}
use Rattle.relaxation.proofs.+choose_choose_with.Given as goal

abbrev pub decreases-choose : goal.decreases-choose
decreases-choose l = 2 * l.k + 1

abbrev pub invariant-choose-loop-i : goal.invariant-choose-loop-i
invariant-choose-loop-i l =
    (l.i ≤ l.k) × (l.low.value.0 ≤ l.initial.low.value.0) × Floor (problem l.file) (price_in l.tables) l.y.week (has l.y.out) l.i l.low.value.0
    × Right (problem l.file) l.memo × Others l.initial.memo l.memo × (length l.memo ≡ length l.initial.memo)

abbrev pub decreases-choose-loop-i : goal.decreases-choose-loop-i
decreases-choose-loop-i l = l.k - l.i

abbrev pub decreases-choose_with : goal.decreases-choose_with
decreases-choose_with l = 2 * l.i + 2
