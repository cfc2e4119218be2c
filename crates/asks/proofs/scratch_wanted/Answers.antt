-- `asks::scratch_wanted` meets its contract: a 1 shifted up is a power of 2.
-- Assumes nothing.
use Rattle.asks.proofs.RefusalLaws.{scratch_words}
use Rattle.asks.proofs.scratch_wanted.Goals as goal

pub returns : goal.returns
returns c = search scratch_words
