-- `nogood::note_unit` meets its contract: a word for a unit of the set, none for another.
-- Assumes nothing.
use Rattle.nogood.proofs.NotingLaws.{unit_place, unit_words, other_place, other_words}
use Rattle.nogood.proofs.note_unit.Goals as goal

pub returns-then-has : goal.returns-then-has
returns-then-has c = record { place = search unit_place; words = search unit_words }

pub returns : goal.returns
returns c = record { place = search other_place; words = search other_words }
