-- `search::probes::solve_in_vain` meets its contract: by what the free plant shows.
-- Assumes nothing.
use Rattle.search.proofs.ProbeLaws.{vain_priced, vain_known, vain_recalls, vain_ceiling}
use Rattle.search.proofs.probes.solve_in_vain.Goals as goal

pub learn-requires : goal.learn-requires
learn-requires c = (search vain_priced, search vain_known)

pub returns-then-free-clause-recalls : goal.returns-then-free-clause-recalls
returns-then-free-clause-recalls c = search vain_recalls

pub solve_at_ceiling-requires : goal.solve_at_ceiling-requires
solve_at_ceiling-requires c = search vain_ceiling
