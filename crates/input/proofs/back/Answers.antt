-- `input::back` meets its contract: cut at n words, or at all of fewer.
-- Assumes nothing.
use Rattle.input.proofs.InputLaws.{back_is}
use Rattle.input.proofs.back.Goals as goal

pub returns : goal.returns
returns c = search back_is
