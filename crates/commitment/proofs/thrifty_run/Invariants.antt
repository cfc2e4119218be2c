-- `commitment::thrifty_run` meets its contract: none without OFF costs; else the thrifty units, gathered one by one.
-- Assumes nothing.
use Rattle.std.proofs.Common.{◌-◌, ◌<◌, ◌≤◌}
use Rattle.sums.specs.NumSet.{has}
use Rattle.sums.proofs.LoopLaws.{Gathered}
use Rattle.instance.specs.File.{problem}
use Rattle.commitment.specs.Score.{thrifty_at}
use Rattle.commitment.proofs.thrifty_run.Given as goal

abbrev pub invariant-loop-i : goal.invariant-loop-i
invariant-loop-i l = (l.i ≤ l.units) × (l.found < 4294967296) × Gathered (thrifty_at (problem l.file) l.t (has l.out)) l.i l.found

abbrev pub decreases-loop-i : goal.decreases-loop-i
decreases-loop-i l = l.units - l.i
