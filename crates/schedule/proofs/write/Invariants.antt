-- `schedule::write` meets its contract: the bytes written so far are the grid's beginning, and the rest is as it was lent.
-- Assumes nothing.
use Rattle.std.proofs.Common.{◌-◌, ◌*◌, ◌≤◌, ◌≡◌, ◌++◌, length, drop}
use Rattle.sums.specs.Range.{list_to}
use Rattle.model.specs.Grid.{state_at}
use Rattle.model.specs.Schedule.{schedule_of, lay_out}
use Rattle.instance.specs.File.{problem}
use Rattle.schedule.proofs.write.Given as goal

abbrev pub invariant-loop-q : goal.invariant-loop-q
invariant-loop-q l =
    (l.q ≤ l.file.layout.weeks * l.file.layout.units) × (length l.grid ≡ length l.initial.grid)
    × (l.grid ≡ list_to l.q (state_at (problem l.file) (lay_out (problem l.file) (schedule_of l.starts l.runs))) ++ drop l.q l.initial.grid)

abbrev pub decreases-loop-q : goal.decreases-loop-q
decreases-loop-q l = l.file.layout.weeks * l.file.layout.units - l.q
