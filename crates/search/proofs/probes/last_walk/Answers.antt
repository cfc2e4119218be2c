-- `search::probes::last_walk` meets its contract: the walk has the ask's own limit and budget.
-- Assumes nothing.
use Rattle.search.proofs.ProbeLaws.{last_due, last_ends}
use Rattle.search.proofs.probes.last_walk.Goals as goal

pub walk-requires : goal.walk-requires
walk-requires c = search last_due

pub returns-clause-answer : goal.returns-clause-answer
returns-clause-answer c = search last_ends
