-- `intake::plan_input` meets its contract: by the length of the input, then by its words.
-- Assumes nothing.
use Rattle.std.proofs.Common.{rules}
use Rattle.std.proofs.lemmas.Result.{err_from_is_err_and}
use Rattle.intake.proofs.IntakeLaws.{input_long, input_refused, input_ran, refused_sized}
use Rattle.intake.proofs.plan_input.Goals as goal

pub returns-then-bytes-gt32768 : goal.returns-then-bytes-gt32768
returns-then-bytes-gt32768 c = rw c.at.ensures record { ran_input = search input_long; sized = search refused_sized }

pub returns-in_err-n : goal.returns-in_err-n
returns-in_err-n c =
    let p = err_from_is_err_and c.from_residual.result c.from_residual.ensures.1 in
    rw (p.1, p.2) record { ran_input = search (input_refused, c.in_err-n.ensures.answer); sized = search refused_sized }

pub returns : goal.returns
returns c = record { ran_input = search (input_ran, c.in_ok-n.ensures.answer, c.in_ok-n.ensures.buffer); sized = search rules }
