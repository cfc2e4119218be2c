-- `prices::step::move_week` meets its contract: the prices so far have moved.
-- Assumes nothing.
use Rattle.prices.specs.Ranges.{Moved}
use Rattle.prices.proofs.step.move_week.Given as goal

abbrev pub invariant-loop-i : goal.invariant-loop-i
invariant-loop-i l = Moved l.initial.tables l.tables
