-- `dual::put_start` meets its contract: one start more stands in the table.
-- Assumes nothing.
use Rattle.std.proofs.Common.{rules}
use Rattle.dual.proofs.CostLaws.{put_at_lem, put_under, put_next}
use Rattle.dual.proofs.put_start.Goals as goal

pub cost_above-requires : goal.cost_above-requires
cost_above-requires c = (search put_at_lem, search rules, search put_under)

pub returns : goal.returns
returns c = search put_next
