-- `nogood::write` meets its contract: the bound's word, and the choices behind it.
-- Assumes nothing.
use Rattle.nogood.proofs.NotingLaws.{write_place, write_words, write_length}
use Rattle.nogood.proofs.write.Goals as goal

pub shape_of-table : goal.shape_of-table
shape_of-table c = search write_length

pub returns : goal.returns
returns c = record { place = search write_place; words = search write_words }
