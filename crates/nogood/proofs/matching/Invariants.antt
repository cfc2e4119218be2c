-- `nogood::matching` meets its contract: the starts have the choices read so far, and a word that is no choice ends them.
-- Assumes nothing.
use Rattle.sums.specs.NumSet.{has}
use Rattle.nogood.proofs.RecallLaws.{Reading}
use Rattle.nogood.proofs.matching.Given as goal

abbrev pub invariant-loop-m : goal.invariant-loop-m
invariant-loop-m l = Reading l.table l.starts (has l.placed) l.i l.b l.m
