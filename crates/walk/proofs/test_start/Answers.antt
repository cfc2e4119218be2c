-- `walk::test_start` meets its contract: a noted conflict, or the tests.
-- Assumes nothing.
use Rattle.walk.proofs.JudgedLaws.{test_few, test_due, test_met, test_recalls}
use Rattle.walk.proofs.test_start.Goals as goal

pub recalled-requires : goal.recalled-requires
recalled-requires c = search test_few

pub returns-in-Some : goal.returns-in-Some
returns-in-Some c = record { answer = search test_met; recalls = search test_recalls }

pub test-requires : goal.test-requires
test-requires c = search test_due
