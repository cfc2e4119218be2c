-- `prices::momentum::push_at` meets its contract: a push of the table.
-- Assumes nothing.
use Rattle.prices.proofs.RangeLaws.{push_most}
use Rattle.prices.proofs.momentum.push_at.Goals as goal

pub returns : goal.returns
returns c = search push_most
