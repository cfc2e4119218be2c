-- `tables::first` meets its contract: the units so far have their partners and OFF costs.
-- Assumes nothing.
use Rattle.std.proofs.Common.{◌-◌, ◌≤◌}
use Rattle.instance.specs.File.{problem}
use Rattle.tables.specs.Tables.{First}
use Rattle.tables.proofs.first.Given as goal

abbrev pub invariant-loop-i : goal.invariant-loop-i
invariant-loop-i l = (l.i ≤ l.units) × First (problem l.file) l.i l.tables

abbrev pub decreases-loop-i : goal.decreases-loop-i
decreases-loop-i l = l.units - l.i
