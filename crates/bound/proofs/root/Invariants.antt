-- `bound::root` meets its contract: the weeks so far have a run, and with the least of all overhauls they come to the sum so far.
-- Assumes nothing.
use Rattle.std.proofs.Common.{◌-◌, ◌≤◌}
use Rattle.instance.specs.File.{problem}
use Rattle.bound.proofs.RootedLaws.{RootTo}
use Rattle.bound.proofs.root.Given as goal

abbrev pub invariant-loop-t : goal.invariant-loop-t
invariant-loop-t l = (l.t ≤ l.weeks) × (l.weeks ≤ 52) × RootTo (problem l.file) l.tables l.t l.sum.0

abbrev pub decreases-loop-t : goal.decreases-loop-t
decreases-loop-t l = l.weeks - l.t
