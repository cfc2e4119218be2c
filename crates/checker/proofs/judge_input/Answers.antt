-- `checker::judge_input` meets its contract: the file's bytes, then the grid's, where the input is short enough.
-- Assumes nothing.
use Rattle.checker.proofs.ProgramLaws.{input_long, file_length, file_short, input_judged}
use Rattle.checker.proofs.judge_input.Goals as goal

pub returns-then-bytes-gt32768 : goal.returns-then-bytes-gt32768
returns-then-bytes-gt32768 c = rw c.at.ensures (search input_long)

pub slice_bounds-judge_bytes-end : goal.slice_bounds-judge_bytes-end
slice_bounds-judge_bytes-end c = search file_length

pub judge_bytes-requires : goal.judge_bytes-requires
judge_bytes-requires c = search file_short

pub returns : goal.returns
returns c = search input_judged
