-- `relaxation::start::shut_after` meets its contract: unit i is out, or free, or neither.
-- Assumes nothing.
use Rattle.relaxation.proofs.ShutLaws.{shut_out, shut_free, shut_kept}
use Rattle.relaxation.proofs.start.shut_after.Goals as goal

pub returns-then-has : goal.returns-then-has
returns-then-has c = search shut_out

pub returns-then-own-eq0 : goal.returns-then-own-eq0
returns-then-own-eq0 c = search shut_free

pub returns : goal.returns
returns c = search shut_kept
