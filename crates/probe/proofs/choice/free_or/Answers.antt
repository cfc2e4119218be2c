-- `probe::choice::free_or` meets its contract: the unit is looked at before it is taken.
-- Assumes nothing.
use Rattle.probe.proofs.ChoiceLaws.{chosen_other}
use Rattle.probe.proofs.choice.free_or.Goals as goal

pub returns : goal.returns
returns c = search chosen_other
