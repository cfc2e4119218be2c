use Rattle.std.proofs.Common.{refl, arith, rules}
use Rattle.memo.proofs.EntryLaws.{others_same, others_trans}
use Rattle.relaxation.proofs.LeftLaws.{spare_small, spare_next}
use Rattle.relaxation.proofs.NodeLaws.{low_small, with_open, choosing_on, choosing_with}
use Rattle.relaxation.proofs.NodeLaws.{choose_start, choose_full, choose_cut, choose_over, choose_tried, choose_next, choose_ended}
use Rattle.relaxation.proofs.+choose_choose_with.Goals as goal

pub choose-returns-then-y-eq0 : goal.choose-returns-then-y-eq0
choose-returns-then-y-eq0 t c = record { answer = search choose_full; less = search rules; right = (search rules, search others_same) }

pub choose-no_gain-requires : goal.choose-no_gain-requires
choose-no_gain-requires t c = (search low_small, search spare_small)

pub choose-returns-then-no_gain : goal.choose-returns-then-no_gain
choose-returns-then-no_gain t c = record { answer = search choose_cut; less = search rules; right = (search rules, search others_same) }

pub choose-loop-i-init : goal.choose-loop-i-init
choose-loop-i-init t c = (search rules, search rules, search choose_start, search rules, search others_same, refl)

pub choose-choose_with-low-requires : goal.choose-choose_with-low-requires
choose-choose_with-low-requires t c = (omega arith, (search choosing_on, search rules, search rules, search rules))

pub choose-loop-i-preserved : goal.choose-loop-i-preserved
choose-loop-i-preserved t c = (search rules, search rules, search choose_next, search rules, search others_trans, search rules)

pub choose-returns : goal.choose-returns
choose-returns t c = record { answer = search choose_ended; less = search rules; right = search rules }

pub choose_with-passed_over-requires : goal.choose_with-passed_over-requires
choose_with-passed_over-requires t c = (search rules, search low_small, search spare_next)

pub choose_with-returns-then-passed_over : goal.choose_with-returns-then-passed_over
choose_with-returns-then-passed_over t c = record { answer = search choose_over; right = (search rules, search others_same) }

pub choose_with-with_unit-z-requires : goal.choose_with-with_unit-z-requires
choose_with-with_unit-z-requires t c = (search rules, search rules, search rules, search rules, search rules, search with_open)

pub choose_with-choose-requires : goal.choose_with-choose-requires
choose_with-choose-requires t c = (omega arith, (search choosing_with, search rules))

pub choose_with-returns : goal.choose_with-returns
choose_with-returns t c = record { answer = search choose_tried; right = (search rules, search others_trans) }
