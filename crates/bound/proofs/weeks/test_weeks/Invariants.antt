-- `bound::weeks::test_weeks` meets its contract: in the weeks so far the units out may be out together and are served, at the bound so far.
-- Assumes nothing.
use Rattle.std.proofs.Common.{◌≤◌, ◌≡◌, length}
use Rattle.sums.specs.NumSet.{has}
use Rattle.sums.specs.Table.{entry}
use Rattle.instance.specs.File.{problem}
use Rattle.tables.specs.Tables.{price_in}
use Rattle.relaxation.specs.Relaxed.{MemoTrue}
use Rattle.bound.specs.Tests.{TestedTo}
use Rattle.bound.proofs.weeks.test_weeks.Given as goal

abbrev pub invariant-loop-t : goal.invariant-loop-t
invariant-loop-t l = (l.initial.t ≤ l.t) × (l.t ≤ l.t-end) × (l.t-end ≤ 52) × TestedTo (problem l.file) l.tables (has l.node.placed) (entry l.node.starts) l.node.unit l.t l.values l.total.0
    × MemoTrue (problem l.file) (price_in l.tables) l.memo × (length l.values ≡ length l.initial.values) × (length l.memo ≡ length l.initial.memo)
