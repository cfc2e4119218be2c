-- `asks::memory_verdict` meets its contract: the table, the answers, the scratch, one after the other.
-- Assumes nothing.
use Rattle.asks.proofs.RefusalLaws.{blocks_fit, table_short, table_long, answers_short, scratch_short, memory_enough}
use Rattle.asks.proofs.memory_verdict.Goals as goal

pub returns-then-table-lt64 : goal.returns-then-table-lt64
returns-then-table-lt64 c = rw c.at.ensures (search table_short)

pub returns-then-table-gt16384 : goal.returns-then-table-gt16384
returns-then-table-gt16384 c = rw c.at-then-table-gt16384.ensures (search table_long)

pub overflow_mul-asks : goal.overflow_mul-asks
overflow_mul-asks c = search blocks_fit

pub returns-then-answers-asks : goal.returns-then-answers-asks
returns-then-answers-asks c = rw c.at-then-answers-asks.ensures (search answers_short)

pub returns-then-scratch-scratch_wanted : goal.returns-then-scratch-scratch_wanted
returns-then-scratch-scratch_wanted c = rw c.at-then-scratch-scratch_wanted.ensures (search scratch_short)

pub returns : goal.returns
returns c = search memory_enough
