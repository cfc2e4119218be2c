-- `decoder::bytes::load` meets its contract: the words written so far are the list's beginning, and the rest is as it was lent.
-- Assumes nothing.
use Rattle.std.proofs.Common.{◌≡◌, ◌-◌, ◌≤◌, ◌++◌, length, drop}
use Rattle.model.specs.Bytes.{words_to}
use Rattle.decoder.proofs.bytes.load.Given as goal

abbrev pub invariant-loop-k : goal.invariant-loop-k
invariant-loop-k l = (l.k ≤ l.n) × (length l.words ≡ length l.initial.words) × (l.words ≡ words_to l.bytes l.k ++ drop l.k l.initial.words)

abbrev pub decreases-loop-k : goal.decreases-loop-k
decreases-loop-k l = l.n - l.k
