-- `dual::least_priced` meets its contract: the smallest so far is at most what the permitted starts so far cost.
-- Assumes nothing.
use Rattle.std.proofs.Common.{◌-◌}
use Rattle.instance.specs.File.{problem}
use Rattle.tables.specs.Tables.{price_in}
use Rattle.dual.proofs.CostLaws.{StartsTo}
use Rattle.dual.proofs.CostLaws.{LeastTo}
use Rattle.dual.proofs.least_priced.Given as goal

abbrev pub invariant-loop-s : goal.invariant-loop-s
invariant-loop-s l = StartsTo (problem l.file) l.i l.initial.s l.s-end l.s × LeastTo (problem l.file) (price_in l.tables) l.i l.s l.least.0

abbrev pub decreases-loop-s : goal.decreases-loop-s
decreases-loop-s l = l.s-end - l.s
