-- `states::totals::next_tops` meets its contract: the places so far.
-- Assumes nothing.
use Rattle.states.specs.SearchTables.{NextTops}
use Rattle.states.proofs.totals.next_tops.Given as goal

abbrev pub invariant-loop-j : goal.invariant-loop-j
invariant-loop-j l = NextTops l.before l.cap l.j l.tops
