-- `search::probes::solve_at_ceiling` meets its contract: by how the probe at the ceiling ended.
-- Assumes nothing.
use Rattle.search.proofs.ProbeLaws.{ceiling_probes, ceiling_walks, ceiling_ends, ceiling_plan, ceiling_none}
use Rattle.search.proofs.probes.solve_at_ceiling.Goals as goal

pub from_root-step-requires : goal.from_root-step-requires
from_root-step-requires c = search ceiling_probes

pub solve_by_descent-requires : goal.solve_by_descent-requires
solve_by_descent-requires c = search ceiling_plan

pub last_walk-requires : goal.last_walk-requires
last_walk-requires c = search ceiling_walks

pub returns-in-Plan-clause-answer : goal.returns-in-Plan-clause-answer
returns-in-Plan-clause-answer c = search (ceiling_ends, c.requires, c.from_root-step.ensures.answer)

pub returns-in-NoPlan-clause-answer : goal.returns-in-NoPlan-clause-answer
returns-in-NoPlan-clause-answer c = search (ceiling_none, c.requires, c.from_root-step.ensures.answer)

pub returns-in-Spent-clause-answer : goal.returns-in-Spent-clause-answer
returns-in-Spent-clause-answer c = search (ceiling_ends, c.requires, c.from_root-step.ensures.answer)
