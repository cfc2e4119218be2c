-- `bound::runs` meets its contract: the places so far hold the runs of the weeks so far.
-- Assumes nothing.
use Rattle.std.proofs.Common.{◌-◌, ◌≤◌, ◌≡◌, length}
use Rattle.instance.specs.File.{problem}
use Rattle.bound.proofs.RunLaws.{RunsTo}
use Rattle.bound.proofs.runs.Given as goal

abbrev pub invariant-loop-t : goal.invariant-loop-t
invariant-loop-t l = (l.t ≤ l.weeks) × (l.weeks ≤ 52) × (length l.table ≡ 52) × RunsTo (problem l.file) l.rows l.t l.table

abbrev pub decreases-loop-t : goal.decreases-loop-t
decreases-loop-t l = l.weeks - l.t
