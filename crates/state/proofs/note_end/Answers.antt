-- `state::note_end` meets its contract, case by case.
-- Assumes nothing.
use Rattle.state.proofs.TableLaws.{concluded_spent, concluded_dead}
use Rattle.state.proofs.note_end.Goals as goal

pub returns-in-Spent : goal.returns-in-Spent
returns-in-Spent c = search concluded_spent

pub returns-in-Dead : goal.returns-in-Dead
returns-in-Dead c = search concluded_dead
