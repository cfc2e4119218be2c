-- `search::search_ask` meets its contract: the walks begin with no schedule and the ask's own ceiling.
-- Assumes nothing.
use Rattle.search.proofs.AskLaws.{ask_searched}
use Rattle.search.proofs.search_ask.Goals as goal

pub returns-clause-answer : goal.returns-clause-answer
returns-clause-answer c = search ask_searched
