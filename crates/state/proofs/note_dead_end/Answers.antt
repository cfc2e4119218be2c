-- `state::note_dead_end` meets its contract: the table is as it was noted, and the state counts its words, or is as it was.
-- Assumes nothing.
use Rattle.state.proofs.TableLaws.{dead_end_noted_of}
use Rattle.state.proofs.note_dead_end.Goals as goal

pub returns : goal.returns
returns c = search dead_end_noted_of
