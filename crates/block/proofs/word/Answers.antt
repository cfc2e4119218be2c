-- `block::word` meets its contract: by cases of the place.
-- Assumes nothing.
use Rattle.block.proofs.BlockLaws.{word_status, word_cost, word_start, word_run, word_mark, word_none}
use Rattle.block.proofs.word.Goals as goal

pub returns-then-q-lt-COST_PLACE : goal.returns-then-q-lt-COST_PLACE
returns-then-q-lt-COST_PLACE c = search word_status

pub returns-then-q-lt-START_PLACE : goal.returns-then-q-lt-START_PLACE
returns-then-q-lt-START_PLACE c = search word_cost

pub returns-then-q-runs_at : goal.returns-then-q-runs_at
returns-then-q-runs_at c = search word_start

pub returns-then-q-mark_at : goal.returns-then-q-mark_at
returns-then-q-mark_at c = search word_run

pub returns-then-q-mark_at-2 : goal.returns-then-q-mark_at-2
returns-then-q-mark_at-2 c = search word_mark

pub returns-else-q-mark_at-2 : goal.returns-else-q-mark_at-2
returns-else-q-mark_at-2 c = search word_none
