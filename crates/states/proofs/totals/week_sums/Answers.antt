use Rattle.std.proofs.Common.{refl, rules, arith}
use Rattle.states.proofs.TotalLaws.{row_start, row_next, row_fits, cap_term, idle_term, counted_term, flat_term, gain_term, unit_gain_term, gain_is, unit_gain_is, counted_is, flat_is}
use Rattle.states.proofs.totals.week_sums.Goals as goal

pub loop-i-init : goal.loop-i-init
loop-i-init c = record {
  sums = record {
    rooms = row_start _;
    idles = row_start _;
    gains = row_start _;
    flats = row_start _;
    counted_idles = row_start _;
    counted_gains = row_start _;
  };
  tops = search rules;
}

pub overflow_add-sums : goal.overflow_add-sums
overflow_add-sums c = omega (arith, row_fits _ _ _ _ c.loop-i.invariant.sums.rooms (search rules) (search cap_term) refl)

pub overflow_add-sums-in-loop-i-2 : goal.overflow_add-sums-in-loop-i-2
overflow_add-sums-in-loop-i-2 c = omega (arith, row_fits _ _ c.idle_of-idle.result _ c.loop-i.invariant.sums.idles (search rules) (search idle_term) (search rules))

pub overflow_add-sums-in-loop-i-4 : goal.overflow_add-sums-in-loop-i-4
overflow_add-sums-in-loop-i-4 c = omega (arith, row_fits _ _ c.gained.result _ c.loop-i.invariant.sums.gains (search rules) (search gain_term) (search gain_is))

pub overflow_add-sums-in-loop-i-6 : goal.overflow_add-sums-in-loop-i-6
overflow_add-sums-in-loop-i-6 c = omega (arith, row_fits _ _ c.min.result _ c.loop-i.invariant.sums.flats (search rules) (search flat_term) (search flat_is))

pub overflow_add-sums-in-loop-i-8 : goal.overflow_add-sums-in-loop-i-8
overflow_add-sums-in-loop-i-8 c = omega (arith, row_fits _ _ c.idle_of-counted_idle.result _ c.loop-i.invariant.sums.counted_idles (search rules) (search counted_term) (search counted_is))

pub overflow_add-sums-in-loop-i-10 : goal.overflow_add-sums-in-loop-i-10
overflow_add-sums-in-loop-i-10 c =
    omega (arith, row_fits _ _ c.gained-in-loop-i.result _ c.loop-i.invariant.sums.counted_gains (search rules) (search unit_gain_term) (search unit_gain_is))

pub loop-i-preserved : goal.loop-i-preserved
loop-i-preserved c = record {
  sums = record {
    rooms = row_next _ _ _ _ c.loop-i.invariant.sums.rooms (search rules) refl;
    idles = row_next _ _ _ _ c.loop-i.invariant.sums.idles (search rules) (search rules);
    gains = row_next _ _ _ _ c.loop-i.invariant.sums.gains (search rules) (search gain_is);
    flats = row_next _ _ _ _ c.loop-i.invariant.sums.flats (search rules) (search flat_is);
    counted_idles = row_next _ _ _ _ c.loop-i.invariant.sums.counted_idles (search rules) (search counted_is);
    counted_gains = row_next _ _ _ _ c.loop-i.invariant.sums.counted_gains (search rules) (search unit_gain_is);
  };
  tops = c.loop-i.invariant.tops;
}
