-- `commitment::Tally::with_unit` meets its contract: nothing changes, or one more unit counts and costs.
-- Assumes nothing.
use Rattle.std.proofs.Common.{rules}
use Rattle.commitment.proofs.TallyLaws.{joined_same, count_next, cost_next, count_fits, cost_fits}
use Rattle.commitment.proofs.Tally.with_unit.Goals as goal

pub returns-then-has : goal.returns-then-has
returns-then-has c = (search rules, search joined_same)

pub overflow_add-result : goal.overflow_add-result
overflow_add-result c = search (rules, count_fits)

pub add-requires : goal.add-requires
add-requires c = search cost_fits

pub returns : goal.returns
returns c = (record { many = search count_next; sum = search cost_next }, search rules)
