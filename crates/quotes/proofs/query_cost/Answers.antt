-- `quotes::query_cost` meets its contract: by cases of the week.
-- Assumes nothing.
use Rattle.std.proofs.Common.{rules}
use Rattle.quotes.proofs.CostLaws.{query_zero, query_beyond, query_some}
use Rattle.quotes.proofs.query_cost.Goals as goal

pub returns-then-asked-eq0 : goal.returns-then-asked-eq0
returns-then-asked-eq0 c = record { answer = search query_zero; kept = search rules }

pub returns-then-file-asked : goal.returns-then-file-asked
returns-then-file-asked c = record { answer = search query_beyond; kept = search rules }

pub least_cost-cost-requires : goal.least_cost-cost-requires
least_cost-cost-requires c = record { t_lt_weeks = search rules; right_2 = search rules }

pub returns : goal.returns
returns c = record { answer = search query_some; kept = search rules }
