-- `bound::run_of` meets its contract: the answer is the run that the scan picks.
-- Assumes nothing.
use Rattle.bound.proofs.RunLaws.{run_none, run_found}
use Rattle.bound.proofs.run_of.Goals as goal

pub returns-in-None : goal.returns-in-None
returns-in-None c = search run_none

pub returns-in-Some : goal.returns-in-Some
returns-in-Some c = search run_found
