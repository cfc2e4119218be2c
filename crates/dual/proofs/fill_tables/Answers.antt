-- `dual::fill_tables` meets its contract: with the total the table has all its parts.
-- Assumes nothing.
use Rattle.dual.proofs.RootLaws.{total_fits, dual_of, recalls_of}
use Rattle.dual.proofs.fill_tables.Goals as goal

pub overflow_cast-next : goal.overflow_cast-next
overflow_cast-next c = search total_fits

pub returns : goal.returns
returns c = record { answer = search dual_of; recalls = search recalls_of }
