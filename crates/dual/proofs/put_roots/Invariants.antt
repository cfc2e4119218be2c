-- `dual::put_roots` meets its contract: the weeks so far are in the table, behind all units' costs.
-- Assumes nothing.
use Rattle.std.proofs.Common.{◌-◌, ◌≤◌, ◌≡◌, length}
use Rattle.instance.specs.File.{problem}
use Rattle.tables.specs.Tables.{price_in}
use Rattle.relaxation.specs.Relaxed.{MemoTrue}
use Rattle.dual.specs.Made.{RootsMade}
use Rattle.dual.proofs.put_roots.Given as goal

abbrev pub invariant-loop-t : goal.invariant-loop-t
invariant-loop-t l = (l.t ≤ l.weeks) × RootsMade l.file l.tables l.t l.next × MemoTrue (problem l.file) (price_in l.tables) l.memo × (length l.memo ≡ length l.initial.memo)

abbrev pub decreases-loop-t : goal.decreases-loop-t
decreases-loop-t l = l.weeks - l.t
