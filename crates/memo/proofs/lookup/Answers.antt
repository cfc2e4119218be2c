-- `memo::lookup` meets its contract: the entry where the key belongs has it, or nothing is told.
-- Assumes nothing.
use Rattle.memo.proofs.EntryLaws.{looked_hit}
use Rattle.memo.proofs.lookup.Goals as goal

pub returns-then-memo-at : goal.returns-then-memo-at
returns-then-memo-at c = search looked_hit
