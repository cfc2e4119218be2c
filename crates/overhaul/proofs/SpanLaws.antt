-- A sum over the weeks of an overhaul is the sum over its duration, as a loop has it.
-- Assumes nothing.
use Prim.Native.Nat.{ℕ, suc, ◌+◌, ◌-◌, ◌≤◌, ◌<◌}
use mathlib.Core.Path.{◌≡◌, ◌∙◌, ap}
use native.Mathlib.Omega.{arith}
use Rattle.sums.specs.Sum.{sum_to, shifted}
use Rattle.sums.specs.NumSet.{only_in}
use Rattle.sums.proofs.LogicLaws.{not_so}
use Rattle.sums.proofs.SumLaws.{sum_same, sum_zero, sum_cut}
use Rattle.model.specs.Schedule.{in_span}
use Rattle.model.proofs.DomainLaws.{span_from, span_below, span_of}

-- d weeks from week a on, of the terms f
module _ (a d : ℕ) (f : ℕ → ℕ) where
  -- no week before
  before_none : (t : ℕ) → t < a → only_in (in_span (suc a) d) f t ≡ 0
  unfolding only_in
  before_none t h = rw (not_so (in_span (suc a) d t) (λ e. omega (arith, span_from (suc a) d t e)))

  -- none after
  after_none : (t : ℕ) → a + d ≤ t → only_in (in_span (suc a) d) f t ≡ 0
  unfolding only_in
  after_none t h = rw (not_so (in_span (suc a) d t) (λ e. omega (arith, span_below (suc a) d t e)))

  -- each of the d
  inside_all : (k : ℕ) → k < d → only_in (in_span (suc a) d) f (a + k) ≡ f (a + k)
  unfolding only_in
  inside_all k h = rw (span_of (suc a) d (a + k) (omega arith) (omega arith))

  -- of w weeks, where the overhaul ends in time
  pub span_sum_lem : (w : ℕ) → a + d ≤ w → sum_to w (only_in (in_span (suc a) d) f) ≡ sum_to d (shifted a f)
  unfolding shifted
  span_sum_lem w h =
      let e : w ≡ (a + d) + (w - (a + d)) = omega arith in
      let p = only_in (in_span (suc a) d) f in
      ap (λ (z : ℕ). sum_to z p) e
      ∙ (omega (
        arith,
        sum_cut (a + d) (w - (a + d)) p,
        sum_cut a d p,
        sum_zero a p before_none,
        sum_zero (w - (a + d)) (shifted (a + d) p) (λ k l. after_none (a + d + k) (omega arith)),
        sum_same d (shifted a p) (shifted a f) inside_all,
      ))
