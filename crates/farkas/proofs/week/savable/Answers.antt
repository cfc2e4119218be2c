-- `farkas::week::savable` meets its contract: the smaller of two.
-- Assumes nothing.
use Rattle.std.proofs.Common.{rules}
use Rattle.farkas.proofs.NodeLaws.{crews_fit, saves_least}
use Rattle.farkas.proofs.week.savable.Goals as goal

pub overflow_mul-most : goal.overflow_mul-most
overflow_mul-most c = search (rules, crews_fit)

pub returns : goal.returns
returns c = search saves_least
