-- `asks::run_verdict` meets its contract: the first refusal, of the file, of the ask, then of lent memory.
-- Assumes nothing.
use Rattle.std.proofs.Common.{sym}
use Rattle.std.proofs.lemmas.Result.{err_from_is_err_and}
use Rattle.asks.proofs.VerdictLaws.{run_file, run_asks, run_few, run_memory}
use Rattle.asks.proofs.run_verdict.Goals as goal

pub returns-in_err-read : goal.returns-in_err-read
returns-in_err-read c =
    let p = err_from_is_err_and c.from_residual.result c.from_residual.ensures.1 in
    rw (p.1, p.2) (search (run_file, c.in_err-read.ensures))

pub returns-in_err-asks_verdict : goal.returns-in_err-asks_verdict
returns-in_err-asks_verdict c =
    let p = err_from_is_err_and c.from_residual-in_err-asks_verdict.result c.from_residual-in_err-asks_verdict.ensures.1 in
    rw (p.1, p.2) (search (run_asks, c.in_ok-read.ensures, c.in_err-asks_verdict.ensures))

pub new-requires : goal.new-requires
new-requires c = sym c.in_ok-read.ensures

pub memory_verdict-requires : goal.memory_verdict-requires
memory_verdict-requires c = search (run_few, c.in_ok-asks_verdict.ensures)

pub returns : goal.returns
returns c = rw (← c.new.ensures) (search (run_memory, c.in_ok-asks_verdict.ensures))
