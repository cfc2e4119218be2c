-- `search::search_all` meets its contract: a unit without starts settles it at once, and so does what is known of the free plant.
-- Assumes nothing.
use Rattle.search.proofs.AskLaws.{finished_startless, finished_shown}
use Rattle.search.proofs.search_all.Goals as goal

pub returns-then-has_no_start-clause-answer : goal.returns-then-has_no_start-clause-answer
returns-then-has_no_start-clause-answer c = search finished_startless

pub returns-then-free-clause-answer : goal.returns-then-free-clause-answer
returns-then-free-clause-answer c = search finished_shown
