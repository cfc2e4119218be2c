-- `intake::plan_words` meets its contract: the run's verdict, with the sizes of its blocks.
-- Assumes nothing.
use Rattle.std.proofs.lemmas.Result.{err_from_is_err_and}
use Rattle.intake.proofs.IntakeLaws.{ran_refused, ran_planned, refused_sized, planned_sized}
use Rattle.intake.proofs.plan_words.Goals as goal

pub returns-in_err-run : goal.returns-in_err-run
returns-in_err-run c =
    let p = err_from_is_err_and c.from_residual.result c.from_residual.ensures.1 in
    rw (p.1, p.2) record { ran_file = search (ran_refused, c.in_err-run.ensures); sized = search refused_sized }

pub returns : goal.returns
returns c = record { ran_file = search (ran_planned, c.in_ok-run.ensures); sized = search (planned_sized, c.in_ok-run.ensures) }
