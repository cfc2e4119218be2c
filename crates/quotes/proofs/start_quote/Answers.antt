-- `quotes::start_quote` meets its contract: by cases of the start.
-- Assumes nothing.
use Rattle.std.proofs.Common.{rules}
use Rattle.quotes.proofs.QuoteLaws.{start_early, start_late, start_permitted, start_some}
use Rattle.quotes.proofs.start_quote.Goals as goal

pub returns-then-start-starts : goal.returns-then-start-starts
returns-then-start-starts c = search start_early

pub returns-then-starts-start : goal.returns-then-starts-start
returns-then-starts-start c = search start_late

pub upkeep-cost-requires : goal.upkeep-cost-requires
upkeep-cost-requires c = record { i_lt_units = search rules; start_value = search start_permitted }

pub returns : goal.returns
returns c = search start_some
