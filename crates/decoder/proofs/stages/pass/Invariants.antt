-- `decoder::stages::pass` meets its contract: every word passed leaves the verdict as it was.
-- Assumes nothing.
use Rattle.std.proofs.Common.{◌≡◌, ◌+◌, ◌-◌, ◌<◌, ◌≤◌, length}
use Rattle.model.specs.Reading.{read_from}
use Rattle.decoder.proofs.stages.pass.Given as goal

abbrev pub invariant-loop-p : goal.invariant-loop-p
invariant-loop-p l =
    (l.q < l.p) × (l.p ≤ length l.words) × (read_from l.words (l.q + 1) (length l.words - (l.q + 1)) ≡ read_from l.words l.p (length l.words - l.p))

abbrev pub decreases-loop-p : goal.decreases-loop-p
decreases-loop-p l = l.end - l.p
