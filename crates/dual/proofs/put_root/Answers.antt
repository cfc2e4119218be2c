-- `dual::put_root` meets its contract: one week more stands in the table.
-- Assumes nothing.
use Rattle.std.proofs.Common.{rules}
use Rattle.dual.proofs.RootLaws.{roots_next}
use Rattle.dual.proofs.put_root.Goals as goal

pub returns : goal.returns
returns c = record { answer = search roots_next; recalls = search rules }
