-- `schedule::draw` meets its contract: the file's verdict first, then the number of lent bytes, then the grid is written.
-- Assumes nothing.
use Rattle.std.proofs.Common.{sym}
use Rattle.std.proofs.lemmas.Result.{err_from_is_err_and}
use Rattle.schedule.proofs.DrawLaws.{drawn_refused, bytes_fit, drawn_short, drawn_all, bytes_kept}
use Rattle.schedule.proofs.draw.Goals as goal

pub returns-in_err-read : goal.returns-in_err-read
returns-in_err-read c =
    let p = err_from_is_err_and c.from_residual.result c.from_residual.ensures.1 in
    rw (p.1, p.2) record { answer = search (drawn_refused, c.in_err-read.ensures); buffer = search bytes_kept }

pub new-file-requires : goal.new-file-requires
new-file-requires c = sym c.in_ok-read.ensures

pub overflow_mul-file : goal.overflow_mul-file
overflow_mul-file c = search bytes_fit

pub returns-then-grid-file : goal.returns-then-grid-file
returns-then-grid-file c = rw (c.at.ensures, ← c.new-file.ensures) record { answer = search drawn_short; buffer = search bytes_kept }

pub returns : goal.returns
returns c = rw (← c.new-file.ensures) record { answer = search drawn_all; buffer = c.write.ensures }
