-- `dual::put_costs` meets its contract: the starts so far stand in the table.
-- Assumes nothing.
use Rattle.std.proofs.Common.{◌-◌}
use Rattle.instance.specs.File.{problem}
use Rattle.dual.specs.Made.{CostsTo}
use Rattle.dual.proofs.CostLaws.{StartsTo}
use Rattle.dual.proofs.put_costs.Given as goal

abbrev pub invariant-loop-s : goal.invariant-loop-s
invariant-loop-s l = StartsTo (problem l.file) l.i l.initial.s l.s-end l.s × CostsTo l.file l.tables l.i l.least.0 l.s l.next

abbrev pub decreases-loop-s : goal.decreases-loop-s
decreases-loop-s l = l.s-end - l.s
