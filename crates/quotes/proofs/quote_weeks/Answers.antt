-- `quotes::quote_weeks` meets its contract: the file's verdict first, then the number of lent words, then the costs from an emptied memo.
-- Assumes nothing.
use Rattle.std.proofs.Common.{rules, sym}
use Rattle.std.proofs.lemmas.Result.{err_from_is_err_and}
use Rattle.quotes.proofs.CostLaws.{costs_refused, costs_short, costs_all, costs_kept}
use Rattle.memo.proofs.EntryLaws.{right_empty}
use Rattle.quotes.proofs.quote_weeks.Goals as goal

pub returns-in_err-read : goal.returns-in_err-read
returns-in_err-read c =
    let p = err_from_is_err_and c.from_residual.result c.from_residual.ensures.1 in
    rw (p.1, p.2) record { answer = search (costs_refused, c.in_err-read.ensures); buffer = search costs_kept; lent = search rules }

pub returns-then-costs-queries : goal.returns-then-costs-queries
returns-then-costs-queries c =
    rw c.at.ensures record { answer = search (costs_short, c.in_ok-read.ensures); buffer = search costs_kept; lent = search rules }

pub new-requires : goal.new-requires
new-requires c = sym c.in_ok-read.ensures

pub write-requires : goal.write-requires
write-requires c = record { right = search right_empty; queries_in_bounds = search rules }

pub returns-clause-answer : goal.returns-clause-answer
returns-clause-answer c = search (costs_all, c.in_ok-read.ensures)

pub returns-clause-buffer : goal.returns-clause-buffer
returns-clause-buffer c = rw (← c.new.ensures) c.write.ensures
