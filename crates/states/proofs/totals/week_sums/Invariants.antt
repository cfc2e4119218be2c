-- `states::totals::week_sums` meets its contract: the sums so far, and the tops as they were.
-- Assumes nothing.
use Rattle.states.specs.SearchTables.{AllSumsTo, TopsTo, places_of}
use Rattle.states.proofs.totals.week_sums.Given as goal

abbrev pub invariant-loop-i : goal.invariant-loop-i
invariant-loop-i l = record { sums : AllSumsTo (places_of l.costs l.a.shut) l.a l.i l.sums; tops : TopsTo l.costs 16 l.sums.tops }
