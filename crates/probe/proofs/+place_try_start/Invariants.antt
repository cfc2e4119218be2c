-- `probe::place` and `probe::try_start`, which call each other, meet their contracts, by recursion on the number of units not placed: each start tried
-- and each unit placed leaves fewer.
-- Assumes nothing.
use Rattle.std.proofs.Common.{◌≡◌, length, ◌*◌, ◌-◌}
use Rattle.sums.specs.NumSet.{has}
use Rattle.instance.specs.File.{problem}
use Rattle.probe.specs.Probe.{unplaced}
use Rattle.probe.proofs.CallLaws.{Starts}
use Rattle.probe.proofs.+place_try_start.Given as goal

abbrev pub decreases-place : goal.decreases-place
decreases-place l = 2 * unplaced (problem l.file.now) (has l.at.visit.node.placed)

abbrev pub invariant-place-loop-v : goal.invariant-place-loop-v
invariant-place-loop-v l =
    Starts l.file l.tables l.rows l.values l.at l.initial.table l.unit l.v-end l.table l.s l.blame l.v l.memo
    × (length l.table ≡ length l.initial.table) × (length l.memo ≡ length l.initial.memo)

abbrev pub decreases-try_start : goal.decreases-try_start
decreases-try_start l = 2 * unplaced (problem l.file.now) (has l.at.visit.node.placed) - 1
