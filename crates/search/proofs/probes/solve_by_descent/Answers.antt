-- `search::probes::solve_by_descent` meets its contract: the earliest plan, or the last walk.
-- Assumes nothing.
use Rattle.std.proofs.Common.{rules}
use Rattle.search.proofs.ProbeLaws.{plan_descends, plan_told, plan_walks, plan_walked}
use Rattle.search.proofs.probes.solve_by_descent.Goals as goal

pub descend-r-requires : goal.descend-r-requires
descend-r-requires c = search plan_descends

pub returns-in-Earliest : goal.returns-in-Earliest
returns-in-Earliest c = record { answer = search plan_told; recalls = search rules }

pub last_walk-requires : goal.last_walk-requires
last_walk-requires c = search plan_walks

-- by name: what was asked stands behind more records than a search enters
pub returns : goal.returns
returns c = record {
  answer = plan_walked _ _ _ _ _ _ c.requires _ _ c.descend-r.ensures.answer _ _ c.last_walk.ensures.answer;
  recalls = c.last_walk.ensures.recalls;
}
