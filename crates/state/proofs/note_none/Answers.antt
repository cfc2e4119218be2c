-- `state::note_none` meets its contract: the conclusion writes the word, and the state counts it.
-- Assumes nothing.
use Rattle.state.proofs.TableLaws.{end_of}
use Rattle.state.proofs.note_none.Goals as goal

pub returns : goal.returns
returns c = search end_of
