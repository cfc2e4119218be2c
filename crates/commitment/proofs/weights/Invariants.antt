-- `commitment::weights` meets its contract: the places so far hold the units so far, and the number is that of the next.
-- Assumes nothing.
use Rattle.std.proofs.Common.{◌-◌, ◌≤◌, ◌≡◌, length}
use Rattle.sums.specs.NumSet.{power}
use Rattle.instance.specs.File.{problem}
use Rattle.cover.specs.Tables.{Weights}
use Rattle.commitment.specs.Score.{weight_of, Column}
use Rattle.commitment.proofs.weights.Given as goal

abbrev pub invariant-loop-i : goal.invariant-loop-i
invariant-loop-i l =
    (l.i ≤ l.units) × ((length l.table ≡ 16) × ((l.number ≡ power l.i) × (Column l.i (weight_of (problem l.file) l.t) l.table × Weights l.table)))

abbrev pub decreases-loop-i : goal.decreases-loop-i
decreases-loop-i l = l.units - l.i
