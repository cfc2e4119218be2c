-- `states::totals::week_tops` meets its contract: the rows so far.
-- Assumes nothing.
use Rattle.states.specs.SearchTables.{TopsTo}
use Rattle.states.proofs.totals.week_tops.Given as goal

abbrev pub invariant-loop-k : goal.invariant-loop-k
invariant-loop-k l = TopsTo l.costs l.k l.tops
