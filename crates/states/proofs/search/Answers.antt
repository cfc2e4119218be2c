-- `states::search` meets its contract: tables, advice and walk.
-- Assumes nothing.
use Rattle.std.proofs.Common.{rules}
use Rattle.states.proofs.WeekLaws.{tables_shut}
use Rattle.states.proofs.search.Goals as goal

pub returns : goal.returns
returns c = record { answer = search tables_shut; less = search rules }
