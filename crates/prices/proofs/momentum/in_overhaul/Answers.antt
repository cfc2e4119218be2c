-- `prices::momentum::in_overhaul` meets its contract: a week before the overhaul, or from its start on.
-- Assumes nothing.
use Rattle.prices.proofs.RangeLaws.{span_before, span_after}
use Rattle.prices.proofs.momentum.in_overhaul.Goals as goal

pub returns-then-first-t : goal.returns-then-first-t
returns-then-first-t c = search span_after

pub returns-else-first-t : goal.returns-else-first-t
returns-else-first-t c = search span_before
