-- `search::probes::solve_by_probes` meets its contract: from where the probes at gaps have come the ask is finished.
-- Assumes nothing.
use Rattle.search.proofs.ProbeLaws.{plan_due, vain_due}
use Rattle.search.proofs.probes.solve_by_probes.Goals as goal

pub solve_by_descent-requires : goal.solve_by_descent-requires
solve_by_descent-requires c = search plan_due

pub solve_in_vain-requires : goal.solve_in_vain-requires
solve_in_vain-requires c = search vain_due
