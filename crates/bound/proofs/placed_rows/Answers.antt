use Rattle.std.proofs.Common.{rules}
use Rattle.bound.proofs.RowLaws.{due_unit, due_few, due_some, due_ends, due_tally, rows_start, rows_next, rows_ended}
use Rattle.bound.proofs.placed_rows.Goals as goal

pub bounds-starts-j : goal.bounds-starts-j
bounds-starts-j c = search (rules, due_few)

pub overflow_sub-first : goal.overflow_sub-first
overflow_sub-first c = search (rules, due_some)

pub duration-weeks-requires : goal.duration-weeks-requires
duration-weeks-requires c = search (rules, due_unit)

pub loop-k-init : goal.loop-k-init
loop-k-init c = (search rules, search due_ends, search rows_start)

pub word_with-requires : goal.word_with-requires
word_with-requires c = (search rules, search due_unit, search due_tally)

pub loop-k-preserved : goal.loop-k-preserved
loop-k-preserved c = (search rules, search rules, search rows_next)

pub returns : goal.returns
returns c = search rows_ended
