-- The value of the word at a section's place is the problem's figure and lies in its range; the layout's numbers are the file's own.
-- Assumes nothing.
use Prim.Native.Nat.{ℕ, ◌+◌, ◌*◌, ◌-◌, ◌/◌, ◌%◌, ◌≤◌, ◌<◌}
use mathlib.Core.Path.{◌≡◌, subst}
use mathlib.Core.List.{List}
use native.Mathlib.Omega.{arith}
use lib.ListN.{length, get_or}
use Rattle.model.specs.declared.Layout.{Layout}
use Rattle.model.specs.Words.{value_of, value_at, layout_of, off_at, problem_of}
use mathlib.Core.Bool.{true, false}
use lib.Dec.{ltb}
use borrow.Author.Tests.{lt-ltb, le-ltb}
use Rattle.model.specs.Ranges.{Ranged}
use Rattle.model.proofs.FileLaws.{ranged}
use Rattle.instance.specs.Filed.{Filed}

module _ (ws : List ℕ) (l : Layout) (f : Filed ws l) where
  in_range : Ranged (problem_of ws)
  in_range = ranged ws f.passed

  -- a week or a unit of the layout is one of the problem
  week : (t : ℕ) → t < l.weeks → t < (problem_of ws).weeks
  week t h = rw f.weeks_are h

  unit : (i : ℕ) → i < l.units → i < (problem_of ws).units
  unit i h = rw f.units_are h

  -- ---- the figure

  pub crews_at : (r : ℕ) → r ≡ value_of (get_or ws 2 0) → r ≡ (problem_of ws).crews
  unfolding problem_of value_at
  crews_at r e = e

  pub demand_at : (r t : ℕ) → r ≡ value_of (get_or ws (3 + t) 0) → r ≡ (problem_of ws).demand t
  unfolding problem_of value_at
  demand_at r t e = e

  pub capacity_at : (r t i : ℕ) → r ≡ value_of (get_or ws (l.triples + 3 * i) 0) → r ≡ (problem_of ws).capacity t i
  unfolding problem_of value_at
  capacity_at r t i e = rw f.laid at e

  pub earliest_at : (r i : ℕ) → r ≡ value_of (get_or ws (l.triples + 3 * i + 1) 0) → r / 64 ≡ (problem_of ws).earliest i
  unfolding problem_of value_at
  earliest_at r i e = rw (e, f.laid)

  pub latest_at : (r i : ℕ) → r ≡ value_of (get_or ws (l.triples + 3 * i + 1) 0) → r % 64 ≡ (problem_of ws).latest i
  unfolding problem_of value_at
  latest_at r i e = rw (e, f.laid)

  pub duration_at : (r i : ℕ) → r ≡ value_of (get_or ws (l.triples + 3 * i + 2) 0) → r ≡ (problem_of ws).duration i
  unfolding problem_of value_at
  duration_at r i e = rw f.laid at e

  pub maint_at : (r q t i : ℕ) → q ≡ t * l.units + i → r ≡ value_of (get_or ws (l.maints + q) 0) → r ≡ (problem_of ws).maint t i
  unfolding problem_of value_at
  maint_at r q t i p e = rw (p, f.laid) at e

  pub running_at : (r q t i : ℕ) → q ≡ t * l.units + i → r ≡ value_of (get_or ws (l.runnings + q) 0) → r ≡ (problem_of ws).running t i
  unfolding problem_of value_at
  running_at r q t i p e = rw (p, f.laid) at e

  pub off_at_lem : (r q t i : ℕ) → l.offs < l.pairs → q ≡ t * l.units + i → r ≡ value_of (get_or ws (l.offs + q) 0) → r ≡ (problem_of ws).off t i
  unfolding problem_of off_at value_at
  off_at_lem r q t i some p e =
      let s : ltb (layout_of ws).offs (layout_of ws).pairs ≡ true
      = subst (λ (z : Layout). ltb z.offs z.pairs ≡ true) f.laid (lt-ltb l.offs l.pairs some) in
      rw s (rw (p, f.laid) at e)

  pub off_none : (t i : ℕ) → l.pairs ≤ l.offs → 0 ≡ (problem_of ws).off t i
  unfolding problem_of off_at
  off_none t i none =
      let s : ltb (layout_of ws).offs (layout_of ws).pairs ≡ false
      = subst (λ (z : Layout). ltb z.offs z.pairs ≡ false) f.laid (le-ltb l.offs l.pairs none) in
      rw s

  pub pairs_at : length ws - (l.pairs + 1) ≡ (problem_of ws).pairs
  unfolding problem_of
  pairs_at = rw f.laid

  pub pair_a_at : (r n : ℕ) → r ≡ value_at ws (l.pairs + n) → r / 32 - 1 ≡ (problem_of ws).pair_a n
  unfolding problem_of
  pair_a_at r n e = rw (e, f.laid)

  pub pair_b_at : (r n : ℕ) → r ≡ value_at ws (l.pairs + n) → r % 32 - 1 ≡ (problem_of ws).pair_b n
  unfolding problem_of
  pair_b_at r n e = rw (e, f.laid)

  -- ---- and its range

  pub crews_some : (r : ℕ) → r ≡ value_of (get_or ws 2 0) → 1 ≤ r
  crews_some r e = omega (arith, crews_at r e, in_range.crews_some)

  pub crews_most : (r : ℕ) → r ≡ value_of (get_or ws 2 0) → r ≤ 16
  crews_most r e = omega (arith, crews_at r e, in_range.crews_most)

  pub demand_most : (r t : ℕ) → t < l.weeks → r ≡ value_of (get_or ws (3 + t) 0) → r ≤ 16000000
  demand_most r t h e = omega (arith, demand_at r t e, in_range.demand_most t (week t h))

  pub pairs_most : length ws - (l.pairs + 1) ≤ 120
  pairs_most = omega (arith, pairs_at, in_range.pairs_most)

  module _ (r i : ℕ) (h : i < l.units) where
    pub capacity_most : r ≡ value_of (get_or ws (l.triples + 3 * i) 0) → r ≤ 1000000
    capacity_most e = omega (arith, capacity_at r 0 i e, in_range.capacity_most 0 i (unit i h))

    pub earliest_some : r ≡ value_of (get_or ws (l.triples + 3 * i + 1) 0) → 1 ≤ r / 64
    earliest_some e = omega (arith, earliest_at r i e, in_range.earliest_some i (unit i h))

    pub earliest_most : r ≡ value_of (get_or ws (l.triples + 3 * i + 1) 0) → r / 64 ≤ l.weeks
    earliest_most e = omega (arith, earliest_at r i e, in_range.window i (unit i h), in_range.latest_most i (unit i h))

    pub latest_some : r ≡ value_of (get_or ws (l.triples + 3 * i + 1) 0) → 1 ≤ r % 64
    latest_some e = omega (arith, latest_at r i e, in_range.earliest_some i (unit i h), in_range.window i (unit i h))

    pub latest_most : r ≡ value_of (get_or ws (l.triples + 3 * i + 1) 0) → r % 64 ≤ l.weeks
    latest_most e = omega (arith, latest_at r i e, in_range.latest_most i (unit i h))

    pub duration_some : r ≡ value_of (get_or ws (l.triples + 3 * i + 2) 0) → 1 ≤ r
    duration_some e = omega (arith, duration_at r i e, in_range.duration_some i (unit i h))

    pub duration_most : r ≡ value_of (get_or ws (l.triples + 3 * i + 2) 0) → r ≤ l.weeks
    duration_most e = omega (arith, duration_at r i e, in_range.duration_most i (unit i h))

  module _ (r q t i : ℕ) (ht : t < l.weeks) (hi : i < l.units) (at : q ≡ t * l.units + i) where
    pub maint_most : r ≡ value_of (get_or ws (l.maints + q) 0) → r ≤ 250000
    maint_most e = omega (arith, maint_at r q t i at e, in_range.maint_most t i (week t ht) (unit i hi))

    pub running_most : r ≡ value_of (get_or ws (l.runnings + q) 0) → r ≤ 250000
    running_most e = omega (arith, running_at r q t i at e, in_range.running_most t i (week t ht) (unit i hi))

    pub off_most : l.offs < l.pairs → r ≡ value_of (get_or ws (l.offs + q) 0) → r ≤ 250000
    off_most some e = omega (arith, off_at_lem r q t i some at e, in_range.off_most t i (week t ht) (unit i hi))

  module _ (r n : ℕ) (h : n < (problem_of ws).pairs) (e : r ≡ value_at ws (l.pairs + n)) where
    pub pair_a_most : r / 32 - 1 < l.units
    pair_a_most = omega (arith, pair_a_at r n e, in_range.pair_order n h, in_range.pair_units n h)

    pub pair_b_most : r % 32 - 1 < l.units
    pair_b_most = omega (arith, pair_b_at r n e, in_range.pair_units n h)
