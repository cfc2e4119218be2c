-- `prices::run_round` meets its contract: table and pushes stay in range from one call to the next.
-- Assumes nothing.
use Rattle.std.proofs.Common.{rules}
use Rattle.memo.proofs.EntryLaws.{others_same}
use Rattle.prices.proofs.RangeLaws.{moved_priced}
use Rattle.prices.proofs.run_round.Goals as goal

pub returns-then-norm-eq0 : goal.returns-then-norm-eq0
returns-then-norm-eq0 c = record { bound = search rules; ranges = (search rules, search rules); right = (search rules, search others_same) }

pub solve_relaxation-requires : goal.solve_relaxation-requires
solve_relaxation-requires c = (search moved_priced, search rules)

pub returns : goal.returns
returns c = record { bound = search rules; ranges = (search moved_priced, search rules); right = (search rules, search rules) }

pub returns-in_err-root : goal.returns-in_err-root
returns-in_err-root c = record { bound = search rules; ranges = (search moved_priced, search rules); right = (search rules, search rules) }
