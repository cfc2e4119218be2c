-- `quotes::upkeep` meets its contract: the file's refusal, or what is said of an accepted file.
-- Assumes nothing.
use Rattle.std.proofs.Common.{sym}
use Rattle.std.proofs.lemmas.Result.{err_from_is_err_and}
use Rattle.quotes.proofs.QuoteLaws.{quote_refused, quote_said}
use Rattle.quotes.proofs.upkeep.Goals as goal

pub returns-in_err-read : goal.returns-in_err-read
returns-in_err-read c =
    let p = err_from_is_err_and c.from_residual.result c.from_residual.ensures.1 in
    rw (p.1, p.2) (search (quote_refused, c.in_err-read.ensures))

pub new-requires : goal.new-requires
new-requires c = sym c.in_ok-read.ensures

pub returns : goal.returns
returns c = rw (← c.new.ensures) (search quote_said)
