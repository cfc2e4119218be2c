-- `states::places::week_costs` meets its contract: the units so far stand in their places.
-- Assumes nothing.
use Rattle.instance.specs.File.{problem}
use Rattle.states.specs.Weeks.{PlacesTo}
use Rattle.sums.specs.NumSet.{has}
use Rattle.states.proofs.places.week_costs.Given as goal

abbrev pub invariant-loop-i : goal.invariant-loop-i
invariant-loop-i l = PlacesTo (problem l.file) l.tables l.t (has l.out) l.i l.costs
