-- `memo::least_cost` meets its contract: the cost with OFF charged to the units out too, less what these would cost OFF.
-- Assumes nothing.
use Rattle.std.proofs.Common.{rules}
use Rattle.memo.proofs.NetLaws.{net_none, net_cost, net_small}
use Rattle.memo.proofs.least_cost.Goals as goal

pub returns-then-full-ge-NO_RUN : goal.returns-then-full-ge-NO_RUN
returns-then-full-ge-NO_RUN c = record { answer = (search net_none, search rules); right = search rules }

pub returns : goal.returns
returns c = record { answer = (search net_cost, search net_small); right = search rules }
