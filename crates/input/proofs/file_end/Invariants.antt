-- `input::file_end` meets its contract: no word before the one at hand is of kind 15.
-- Assumes nothing.
use Rattle.std.proofs.Common.{◌-◌, ◌/◌, ◌≤◌, length, ◌≡◌, false}
use Rattle.sums.specs.Range.{some_to}
use Rattle.model.specs.Bytes.{is_end}
use Rattle.input.proofs.file_end.Given as goal

abbrev pub invariant-loop-k : goal.invariant-loop-k
invariant-loop-k l = (l.k ≤ length l.bytes / 4) × (some_to l.k (is_end l.bytes) ≡ false)

abbrev pub decreases-loop-k : goal.decreases-loop-k
decreases-loop-k l = length l.bytes / 4 - l.k
