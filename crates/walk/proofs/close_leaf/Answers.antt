-- `walk::close_leaf` meets its contract: the schedule is weighed against the limit.
-- Assumes nothing.
use Rattle.walk.proofs.JudgedLaws.{leaf_right, leaf_long, leaf_rows, leaf_recalls, leaf_dear, leaf_due, leaf_better}
use Rattle.walk.proofs.close_leaf.Goals as goal

pub cost-cost-requires : goal.cost-cost-requires
cost-cost-requires c = (search leaf_rows, search leaf_right)

pub returns-then-limit-cost : goal.returns-then-limit-cost
returns-then-limit-cost c = record { answer = search leaf_dear; recalls = search leaf_recalls }

pub slice_bounds-take_better-end : goal.slice_bounds-take_better-end
slice_bounds-take_better-end c = search leaf_long

pub take_better-requires : goal.take_better-requires
take_better-requires c = search leaf_due

pub returns : goal.returns
returns c = record { answer = search leaf_better; recalls = search leaf_recalls }
