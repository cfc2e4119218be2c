-- `prices::find_prices` meets its contract: the first table is in range, and that of the rounds.
-- Assumes nothing.
use Rattle.std.proofs.Common.{rules}
use Rattle.prices.proofs.RangeLaws.{priced_first, hard_priced}
use Rattle.tables.proofs.TableLaws.{first_priced}
use Rattle.memo.proofs.EntryLaws.{others_trans}
use Rattle.prices.proofs.find_prices.Goals as goal

pub solve_relaxation-requires : goal.solve_relaxation-requires
solve_relaxation-requires c = (search priced_first, search rules)

pub returns-in_default : goal.returns-in_default
returns-in_default c = record { answer = search first_priced; right = search rules }

pub ascend-best-requires : goal.ascend-best-requires
ascend-best-requires c = (search priced_first, search rules, search rules)

pub returns : goal.returns
returns c = record { answer = search hard_priced; right = (search rules, search others_trans) }
