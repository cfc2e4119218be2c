-- `asks::ceiling` meets its contract: the value of the first of the two words.
-- Assumes nothing.
use Rattle.std.proofs.Common.{rules}
use Rattle.asks.proofs.RefusalLaws.{ceiling_is}
use Rattle.asks.proofs.ceiling.Goals as goal

pub returns : goal.returns
returns c = (search ceiling_is, search rules)
