-- `relaxation::start::shut_units` meets its contract: the units so far that are out are among those found so far.
-- Assumes nothing.
use Rattle.std.proofs.Common.{◌-◌, ◌≤◌}
use Rattle.sums.specs.NumSet.{has}
use Rattle.instance.specs.File.{problem}
use Rattle.tables.specs.Tables.{price_in}
use Rattle.relaxation.specs.Choosing.{NeedlessUnits}
use Rattle.relaxation.proofs.start.shut_units.Given as goal

abbrev pub invariant-loop-i : goal.invariant-loop-i
invariant-loop-i l = (l.i ≤ l.units) × NeedlessUnits (problem l.file) (price_in l.tables) l.t (has l.out) l.i l.shut

abbrev pub decreases-loop-i : goal.decreases-loop-i
decreases-loop-i l = l.units - l.i
