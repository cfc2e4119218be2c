-- `memo::keep` meets its contract: two words written, or no room for them.
-- Assumes nothing.
use Rattle.std.proofs.Common.{arith, length-set}
use Rattle.memo.proofs.EntryLaws.{wrote_none, wrote_one}
use Rattle.memo.proofs.keep.Goals as goal

pub bounds-memo-at-then-entries-gt0 : goal.bounds-memo-at-then-entries-gt0
bounds-memo-at-then-entries-gt0 c = simp length-set (omega arith)

pub returns-then-entries-gt0 : goal.returns-then-entries-gt0
returns-then-entries-gt0 c = search wrote_one

pub returns-else-entries-gt0 : goal.returns-else-entries-gt0
returns-else-entries-gt0 c = search wrote_none
