-- `commitment::cheapest` meets its contract: the least score tells the run and its cost, or that there is none.
-- Assumes nothing.
use Rattle.commitment.proofs.ScoreLaws.{found_run, found_run_cost, found_none}
use Rattle.commitment.proofs.cheapest.Goals as goal

pub returns-then-score-lt-UNCOVERED : goal.returns-then-score-lt-UNCOVERED
returns-then-score-lt-UNCOVERED c = (search found_run, search found_run_cost)

pub returns : goal.returns
returns c = search found_none
