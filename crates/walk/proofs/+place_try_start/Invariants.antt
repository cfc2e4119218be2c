-- `walk::place` and `walk::try_start`, which call each other, meet their contracts, by recursion on the number of places at and below: each
-- try and each unit placed leaves fewer. Assumes nothing.
use Rattle.std.proofs.Common.{◌≡◌, length, suc, ◌*◌, ◌-◌}
use Rattle.model.specs.Prefix.{tree_size}
use Rattle.instance.specs.File.{problem}
use Rattle.walk.proofs.CallLaws.{Starts}
use Rattle.walk.proofs.+place_try_start.Given as goal

abbrev pub decreases-place : goal.decreases-place
decreases-place l = 2 * tree_size (problem l.file.now) ((problem l.file.now).units - l.at.node.unit) - 1

abbrev pub invariant-place-loop-v : goal.invariant-place-loop-v
invariant-place-loop-v l =
    Starts l.file l.tables l.rows l.values l.node l.initial.s l.initial.table l.initial.v l.v-end l.table l.s l.blame l.v l.memo
    × (length l.table ≡ length l.initial.table) × (length l.memo ≡ length l.initial.memo)

abbrev pub decreases-try_start : goal.decreases-try_start
decreases-try_start l = 2 * tree_size (problem l.file.now) ((problem l.file.now).units - suc l.at.node.unit)
