-- `search::solve` meets its contract: the search ends, and its reply is made.
-- Assumes nothing.
use Rattle.search.proofs.AskLaws.{ask_replies, ask_answered, ask_shown}
use Rattle.search.proofs.solve.Goals as goal

pub make_reply-requires : goal.make_reply-requires
make_reply-requires c = search ask_replies

pub returns-clause-answer : goal.returns-clause-answer
returns-clause-answer c = search ask_answered

pub returns-clause-free : goal.returns-clause-free
returns-clause-free c = search ask_shown
