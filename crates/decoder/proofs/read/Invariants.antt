-- `decoder::read` meets its contract: the verdict from where the reader stands is the one due; each step leaves fewer words before it.
-- Assumes nothing.
use Rattle.std.proofs.Common.{◌≡◌, ◌-◌, length}
use Rattle.model.specs.Reading.{read_from, read_of}
use Rattle.decoder.proofs.read.Given as goal

abbrev pub invariant-loop-r : goal.invariant-loop-r
invariant-loop-r l = (l.r.words.now ≡ l.words) × (read_of l.words ≡ read_from l.r.words.now l.r.at (length l.r.words.now - l.r.at))

abbrev pub decreases-loop-r : goal.decreases-loop-r
decreases-loop-r l = length l.r.words.now - l.r.at
