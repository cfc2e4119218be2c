-- `walk::judge_start` meets its contract: the verdict, and where the walk goes on.
-- Assumes nothing.
use Rattle.std.proofs.Common.{rules}
use Rattle.walk.proofs.JudgedLaws.{try_tests, try_few, judged_holds, judged_dead}
use Rattle.walk.proofs.judge_start.Goals as goal

pub test_start-requires : goal.test_start-requires
test_start-requires c = search try_tests

pub deeper-requires : goal.deeper-requires
deeper-requires c = (search try_few, search rules)

pub returns-in-Ok : goal.returns-in-Ok
returns-in-Ok c = search judged_holds

pub returns-in-Err : goal.returns-in-Err
returns-in-Err c = search judged_dead
