-- `nogood::write_choices` meets its contract: the choices of the units so far are written.
-- Assumes nothing.
use Rattle.std.proofs.Common.{◌-◌, ◌≤◌}
use Rattle.nogood.proofs.NotingLaws.{Writing}
use Rattle.nogood.proofs.write_choices.Given as goal

abbrev pub invariant-loop-q : goal.invariant-loop-q
invariant-loop-q l = (l.q ≤ l.k) × Writing l.starts l.b l.initial.table l.table l.from l.at l.q

abbrev pub decreases-loop-q : goal.decreases-loop-q
decreases-loop-q l = l.k - l.q
