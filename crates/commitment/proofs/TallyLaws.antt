-- A week's tally when one more unit is out.
-- Assumes nothing.
use Prim.Native.Nat.{ℕ, ◌+◌, ◌≤◌, ◌<◌}
use mathlib.Core.Path.{◌≡◌, sym, ◌∙◌}
use mathlib.Core.Bool.{Bool, true, false}
use native.Mathlib.Nat.{mul-le-mul_right}
use native.Mathlib.Omega.{arith}
use Rattle.sums.specs.Sum.{sum_to, counts_one}
use Rattle.sums.specs.NumSet.{only_in, has, with}
use Rattle.sums.proofs.SumLaws.{sum_zero}
use Rattle.sums.proofs.NumSetLaws.{zero_has, sum_over, sum_joined, with_same}
use Rattle.model.specs.Problem.{Problem}
use Rattle.model.specs.Rules.{headcount}
use Rattle.model.specs.Commitment.{out_cost}
use Rattle.model.proofs.FileLaws.{ranged}
use Rattle.instance.specs.declared.file.File.{File}
use Rattle.instance.specs.File.{problem}
use Rattle.commitment.specs.declared.Tally.{Tally}
use Rattle.commitment.specs.Tally.{no_tally, Tallies}

-- nobody is out, at no cost
pub tally_none : (p : Problem) (t : ℕ) → Tallies p t no_tally
unfolding headcount out_cost only_in
tally_none p t = record {
  many = sym (sum_zero p.units (only_in (has 0) counts_one) (λ i l. rw (zero_has i)));
  sum = sym (sum_zero p.units (only_in (has 0) (p.maint t)) (λ i l. rw (zero_has i)));
}

-- a unit that is out already changes nothing
pub joined_same : (out i : ℕ) (b : Bool) → b ≡ true → b ≡ has out i → (k : ℕ) → has out k ≡ with (has out) i k
joined_same out i b e is k = sym (with_same (has out) i (sym is ∙ e) k)

module _ (file : File) (t i out r : ℕ) (b : Bool) (h : i < file.layout.units) (e : b ≡ false) (is : b ≡ has out i)
    (j : (k : ℕ) → has r k ≡ with (has out) i k) where
  joined : (g : ℕ → ℕ) → sum_to (problem file).units (only_in (has r) g) ≡ sum_to (problem file).units (only_in (has out) g) + g i
  joined g = sum_joined (problem file).units i (has out) (has r) g (rw file.filed.units_are h) (sym is ∙ e) j

  -- one more is out
  pub count_next : (n : ℕ) → n ≡ headcount (problem file) (has out) → n + 1 ≡ headcount (problem file) (has r)
  unfolding headcount counts_one
  count_next n q = omega (arith, joined counts_one)

  -- at its maintenance cost
  pub cost_next : (c m s : ℕ) → c ≡ out_cost (problem file) t (has out) → m ≡ (problem file).maint t i → s ≡ c + m
      → s ≡ out_cost (problem file) t (has r)
  unfolding out_cost
  cost_next c m s q w z = omega (arith, joined ((problem file).maint t))

module _ (file : File) (t : ℕ) (y : Tally) (w : Tallies (problem file) t y) where
  -- how many are out fits a word
  pub count_fits : y.count + 1 < 18446744073709551616
  unfolding headcount counts_one
  count_fits =
      let p = problem file in
      let b = sum_over p.units 1 (has y.out) counts_one (λ i d. omega arith) in
      omega (arith, w.many, (ranged file.words.now file.filed.passed).units_most)

  -- and what they cost
  pub cost_fits : (m : ℕ) → t < file.layout.weeks → m ≤ 250000 → y.cost.0 + m < 18446744073709551616
  unfolding out_cost
  cost_fits m h s =
      let p = problem file in
      let g = ranged file.words.now file.filed.passed in
      let b = sum_over p.units 250000 (has y.out) (p.maint t) (λ i d. g.maint_most t i (omega arith) d) in
      let u = mul-le-mul_right 250000 g.units_most in
      omega (arith, w.sum)
