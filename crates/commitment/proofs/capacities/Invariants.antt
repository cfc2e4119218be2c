-- `commitment::capacities` meets its contract: the places so far hold the units so far.
-- Assumes nothing.
use Rattle.std.proofs.Common.{◌-◌, ◌≤◌, ◌≡◌, length}
use Rattle.instance.specs.File.{problem}
use Rattle.cover.specs.Tables.{Caps}
use Rattle.commitment.specs.Score.{Column}
use Rattle.commitment.proofs.capacities.Given as goal

abbrev pub invariant-loop-i : goal.invariant-loop-i
invariant-loop-i l =
    (l.i ≤ l.units) × ((length l.caps ≡ 16) × (Column l.i ((problem l.file).capacity l.t) l.caps × Caps l.caps))

abbrev pub decreases-loop-i : goal.decreases-loop-i
decreases-loop-i l = l.units - l.i
