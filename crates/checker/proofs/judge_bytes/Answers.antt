-- `checker::judge_bytes` meets its contract: the words loaded are the file.
-- Assumes nothing.
use Rattle.std.proofs.lemmas.Result.{err_from_is_err_and}
use Rattle.checker.proofs.ProgramLaws.{bytes_refused, bytes_judged}
use Rattle.checker.proofs.judge_bytes.Goals as goal

pub returns-in_err-n : goal.returns-in_err-n
returns-in_err-n c =
    let p = err_from_is_err_and c.from_residual.result c.from_residual.ensures.1 in
    rw (p.1, p.2) (search (bytes_refused, c.in_err-n.ensures.answer))

pub returns : goal.returns
returns c = search (bytes_judged, c.in_ok-n.ensures.answer, c.in_ok-n.ensures.buffer)
