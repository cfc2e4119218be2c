-- `bound::all_rows` meets its contract: the rows hold the units placed so far.
-- Assumes nothing.
use Rattle.std.proofs.Common.{◌-◌, ◌≤◌}
use Rattle.sums.specs.Table.{entry}
use Rattle.instance.specs.File.{problem}
use Rattle.blame.specs.Placed.{first_units, out_of}
use Rattle.bound.specs.Rows.{Rows}
use Rattle.bound.proofs.all_rows.Given as goal

abbrev pub invariant-loop-j : goal.invariant-loop-j
invariant-loop-j l = (l.j ≤ l.units) × Rows (problem l.file) (out_of (problem l.file) (first_units l.j) (entry l.starts)) l.rows

abbrev pub decreases-loop-j : goal.decreases-loop-j
decreases-loop-j l = l.units - l.j
