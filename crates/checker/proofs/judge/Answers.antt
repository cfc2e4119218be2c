-- `checker::judge` meets its contract: the file's refusals first, then the grid's, then its cells.
-- Assumes nothing.
use Rattle.std.proofs.Common.{sym}
use Rattle.std.proofs.lemmas.Result.{err_from_is_err_and}
use Rattle.checker.proofs.JudgingLaws.{file_refused, grid_refused, grid_full, stated, grid_judged}
use Rattle.checker.proofs.judge.Goals as goal

pub returns-in_err-read : goal.returns-in_err-read
returns-in_err-read c =
    let p = err_from_is_err_and c.from_residual.result c.from_residual.ensures.1 in
    rw (p.1, p.2) (search (file_refused, c.in_err-read.ensures))

pub new-file-requires : goal.new-file-requires
new-file-requires c = sym c.in_ok-read.ensures

pub returns-in_err-grid_verdict : goal.returns-in_err-grid_verdict
returns-in_err-grid_verdict c =
    let p = err_from_is_err_and c.from_residual-in_err-grid_verdict.result c.from_residual-in_err-grid_verdict.ensures.1 in
    rw (p.1, p.2, ← c.new-file.ensures) (search (grid_refused, c.in_err-grid_verdict.ensures))

pub invariant_of-judge_cells : goal.invariant_of-judge_cells
invariant_of-judge_cells c = record { full = search (grid_full, c.in_ok-grid_verdict.ensures) }

pub judge_cells-requires : goal.judge_cells-requires
judge_cells-requires c = search (stated, c.in_ok-grid_verdict.ensures)

pub returns : goal.returns
returns c = rw (← c.new-file.ensures) (search (grid_judged, c.in_ok-grid_verdict.ensures))
