use Rattle.std.proofs.Common.{refl, rules}
use Rattle.bound.proofs.TestLaws.{due_permitted, tested_start, weeks_rise, weeks_few, weeks_due, tested_reached, tested_shut, tested_more, tested_ended}
use Rattle.bound.proofs.weeks.test_weeks.Goals as goal

pub overhaul_weeks-weeks-requires : goal.overhaul_weeks-weeks-requires
overhaul_weeks-weeks-requires c = search due_permitted

pub loop-t-init : goal.loop-t-init
loop-t-init c = (search rules, search weeks_rise, search weeks_few, search tested_start, search rules, refl, refl)

pub returns-then-wanted-total-clause-answer : goal.returns-then-wanted-total-clause-answer
returns-then-wanted-total-clause-answer c = search tested_reached

pub test_next-requires : goal.test_next-requires
test_next-requires c = search weeks_due

pub returns-in_err-total-clause-answer : goal.returns-in_err-total-clause-answer
returns-in_err-total-clause-answer c = search (rules, tested_shut, c.in_err-total.ensures)

pub loop-t-preserved : goal.loop-t-preserved
loop-t-preserved c = (search rules, search rules, search rules, search (tested_more, c.in_ok-total.ensures), search rules, search rules, search rules)

pub returns-clause-answer : goal.returns-clause-answer
returns-clause-answer c = search tested_ended
