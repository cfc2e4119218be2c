-- `planner::run` meets its contract: refused by its verdict, or answered.
-- Assumes nothing.
use Rattle.std.proofs.lemmas.Result.{err_from_is_err_and}
use Rattle.asks.proofs.VerdictLaws.{run_reads, run_admitted}
use Rattle.planner.proofs.RunLaws.{ran_refused, ran_answered}
use Rattle.planner.proofs.run.Goals as goal

pub returns-in_err-run_verdict : goal.returns-in_err-run_verdict
returns-in_err-run_verdict c =
    let p = err_from_is_err_and c.from_residual.result c.from_residual.ensures.1 in
    rw (p.1, p.2) (search (ran_refused, c.in_err-run_verdict.ensures))

pub new-requires : goal.new-requires
new-requires c = search (run_reads, c.in_ok-run_verdict.ensures)

pub answer_all-requires : goal.answer_all-requires
answer_all-requires c = search (run_admitted, c.in_ok-run_verdict.ensures)

pub returns : goal.returns
returns c = search (ran_answered, c.in_ok-run_verdict.ensures)
