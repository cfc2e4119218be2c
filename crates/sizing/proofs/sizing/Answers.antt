-- `sizing::sizing` meets its contract: the file's verdict first, then the figure of its weeks and units.
-- Assumes nothing.
use Rattle.std.proofs.lemmas.Result.{err_from_is_err_and}
use Rattle.sizing.proofs.SizingLaws.{sized_refused, sized_accepted}
use Rattle.sizing.proofs.sizing.Goals as goal

pub returns-in_err-read : goal.returns-in_err-read
returns-in_err-read c =
    let p = err_from_is_err_and c.from_residual.result c.from_residual.ensures.1 in
    rw (p.1, p.2) (search (sized_refused, c.in_err-read.ensures))

pub returns : goal.returns
returns c = search (sized_accepted, c.in_ok-read.ensures)
