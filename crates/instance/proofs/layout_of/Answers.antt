-- `instance::layout_of` meets its contract: the layout of the first two values and of the word after the running costs.
-- Assumes nothing.
use Rattle.model.specs.Words.{layout_of}
use Rattle.instance.proofs.OffLaws.{laid_words}
use Rattle.instance.proofs.layout_of.Goals as goal

pub returns : goal.returns
unfolding layout_of
returns c = search laid_words
