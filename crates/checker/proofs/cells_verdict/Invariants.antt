-- `checker::cells_verdict` meets its contract: the verdict on all bytes is that from the byte at hand on.
-- Assumes nothing.
use Rattle.std.proofs.Common.{◌-◌, length}
use Rattle.model.specs.Refusal.{cell_fault}
use Rattle.model.proofs.VerdictLaws.{Onward}
use Rattle.checker.proofs.cells_verdict.Given as goal

abbrev pub invariant-loop-q : goal.invariant-loop-q
invariant-loop-q l = Onward (cell_fault l.grid) (length l.grid) l.q

abbrev pub decreases-loop-q : goal.decreases-loop-q
decreases-loop-q l = length l.grid - l.q
