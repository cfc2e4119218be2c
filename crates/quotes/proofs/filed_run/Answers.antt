-- `quotes::filed_run` meets its contract: by cases of the week and of the answer.
-- Assumes nothing.
use Rattle.quotes.proofs.QuoteLaws.{run_zero, run_beyond, run_none, run_some, run_fits}
use Rattle.quotes.proofs.filed_run.Goals as goal

pub returns-then-week-eq0 : goal.returns-then-week-eq0
returns-then-week-eq0 c = search run_zero

pub returns-then-file-week : goal.returns-then-file-week
returns-then-file-week c = search run_beyond

pub overflow_cast-result : goal.overflow_cast-result
overflow_cast-result c = search run_fits

pub returns-in-None : goal.returns-in-None
returns-in-None c = search run_none

pub returns-in-Some : goal.returns-in-Some
returns-in-Some c = search run_some
