-- `asks::budget` meets its contract: the value of the second of the two words.
-- Assumes nothing.
use Rattle.std.proofs.Common.{rules}
use Rattle.asks.proofs.RefusalLaws.{budget_is}
use Rattle.asks.proofs.budget.Goals as goal

pub returns : goal.returns
returns c = (search budget_is, search rules)
