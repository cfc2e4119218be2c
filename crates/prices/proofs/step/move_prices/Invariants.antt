-- `prices::step::move_prices` meets its contract: the prices of the weeks so far have moved.
-- Assumes nothing.
use Rattle.prices.specs.Ranges.{Moved}
use Rattle.prices.proofs.step.move_prices.Given as goal

abbrev pub invariant-loop-t : goal.invariant-loop-t
invariant-loop-t l = Moved l.initial.tables l.tables
