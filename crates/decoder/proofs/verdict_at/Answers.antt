-- `decoder::verdict_at` meets its contract: no word, a fault, or the end word.
-- Assumes nothing.
use Rattle.decoder.proofs.StepLaws.{ended_out, ended_fault, ended_last, ended_more}
use Rattle.decoder.proofs.verdict_at.Goals as goal

pub returns-then-words-q : goal.returns-then-words-q
returns-then-words-q c = rw c.at.ensures (search ended_out)

pub returns-in-Some : goal.returns-in-Some
returns-in-Some c = rw c.at-in-Some.ensures (search (ended_fault, c.in-Some.ensures))

pub returns-then-q-words : goal.returns-then-q-words
returns-then-q-words c = search (ended_last, c.in_default.ensures)

pub returns : goal.returns
returns c = rw c.at-2.ensures (search (ended_more, c.in_default.ensures))
