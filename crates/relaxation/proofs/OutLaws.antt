-- Sets of units out: what the prices of the others come to, and who may be out together.
-- Assumes nothing.
use Prim.Native.Nat.{ℕ, zero, suc, ◌+◌, ◌≤◌, ◌<◌}
use mathlib.Core.Path.{◌≡◌, refl, sym, ◌∙◌, ap}
use mathlib.Core.Bool.{Bool, true, false, not, ◌||◌}
use mathlib.Core.Logic.{inl, inr, ⊎_elim}
use native.Mathlib.Nat.{eq-or-lt_of_le, le_of_suc-le-suc}
use native.Mathlib.Decide.{ℕ_discrete}
use native.Mathlib.Omega.{arith}
use lib.Dec.{eqb}
use borrow.Author.Tests.{eq-eqb, ne_eqb}
use Rattle.sums.specs.Logic.{if}
use Rattle.sums.specs.Sum.{sum_to, counts_one}
use Rattle.sums.specs.NumSet.{NumSet, only_in, complement}
use Rattle.sums.proofs.LogicLaws.{true_false, or_left, or_right, or_last_false, not_at, not_of, not_so}
use Rattle.sums.proofs.NumSetLaws.{sum_subset, sum_joined}
use Rattle.model.specs.Problem.{Problem}
use Rattle.model.specs.Rules.{headcount}
use Rattle.model.specs.Pairs.{apart}
use Rattle.model.specs.Plan.{Compatible}
use Rattle.blame.proofs.PairLaws.{compatible_clear}
use Rattle.relaxation.specs.Choosing.{prices_not_out, Barred, Needless}

-- ---- sets and sums

-- o with unit i more
abbrev pub Joins : NumSet → ℕ → NumSet → Type 0
Joins o i q = (k : ℕ) → q k ≡ (o k || eqb k i)

module _ (o q : NumSet) (i : ℕ) (j : Joins o i q) where
  -- it has unit i
  pub joins_it : q i ≡ true
  joins_it = j i ∙ or_right (o i) (eqb i i) (eq-eqb i i refl)

  -- and those of o
  pub joins_old : (k : ℕ) → o k ≡ true → q k ≡ true
  joins_old k e = j k ∙ or_left (o k) (eqb k i) e

  -- and no other
  pub joins_other : (k : ℕ) → (k ≡ i → ⊥) → q k ≡ o k
  joins_other k ne = j k ∙ ap (λ (b : Bool). o k || b) (ne_eqb k i ne) ∙ or_last_false (o k)

-- a set with the units of o and unit i has those of q
pub joins_sub : (o q : NumSet) (i n : ℕ) → Joins o i q → (x : NumSet) → ((k : ℕ) → k < n → o k ≡ true → x k ≡ true) → x i ≡ true
    → (k : ℕ) → k < n → q k ≡ true → x k ≡ true
joins_sub o q i n j x all it k l e = by (ℕ_discrete k i)
  where
    by : Dec (k ≡ i) → x k ≡ true
    by (yes z) = ap x z ∙ it
    by (no z) = all k l (sym (joins_other o q i j k z) ∙ e)

-- the more units are out, the less the prices of the others come to
pub not_out_less : (u : ℕ → ℕ → ℕ) (t : ℕ) (a b : NumSet) (k : ℕ) → ((i : ℕ) → i < k → a i ≡ true → b i ≡ true) → prices_not_out u t b k ≤ prices_not_out u t a k
unfolding prices_not_out complement
not_out_less u t a b k h =
    sum_subset k (complement b) (complement a) (u t) (λ i l e. not_of (a i) (not_so (a i) (λ x. true_false (sym (h i l x) ∙ not_at (b i) e))))

-- by its price, where it is one unit more
pub not_out_joined : (u : ℕ → ℕ → ℕ) (t : ℕ) (o q : NumSet) (i n : ℕ) → i < n → o i ≡ false → Joins o i q → prices_not_out u t o n ≡ prices_not_out u t q n + u t i
unfolding prices_not_out complement
not_out_joined u t o q i n l e j = sum_joined n i (complement q) (complement o) (u t) l (ap not (joins_it o q i j)) (λ k. by k (ℕ_discrete k i))
  where
    by : (k : ℕ) → Dec (k ≡ i) → not (o k) ≡ (not (q k) || eqb k i)
    by k (yes z) = ap not (ap o z ∙ e) ∙ sym (or_right (not (q k)) (eqb k i) (eq-eqb k i z))
    by k (no z) =
        ap not (sym (joins_other o q i j k z)) ∙ sym (or_last_false (not (q k)))
        ∙ ap (λ (b : Bool). not (q k) || b) (sym (ne_eqb k i z))

-- terms that are no larger from k on
sum_above : (k n : ℕ) (f g : ℕ → ℕ) → k ≤ n → ((i : ℕ) → k ≤ i → i < n → f i ≤ g i) → sum_to n f ≤ sum_to n g + sum_to k f
unfolding sum_to
sum_above k zero f g le h = omega arith
sum_above k (suc n) f g le h =
    ⊎_elim
    (λ (e : k ≡ suc n). rw e (omega arith))
    (λ (l : k < suc n).
    let m : k ≤ n = le_of_suc-le-suc l in
    omega (arith, sum_above k n f g m (λ i a b. h i a (omega arith)), h n m (omega arith)))
    (eq-or-lt_of_le le)

-- sets that have the same units from k on
pub not_out_above : (u : ℕ → ℕ → ℕ) (t : ℕ) (o x : NumSet) (k n : ℕ) → k ≤ n → ((i : ℕ) → k ≤ i → i < n → x i ≡ true → o i ≡ true)
    → prices_not_out u t o n ≤ prices_not_out u t x n + prices_not_out u t o k
unfolding prices_not_out complement only_in
not_out_above u t o x k n le same = sum_above k n (only_in (complement o) (u t)) (only_in (complement x) (u t)) le (λ i a b. by i (o i) (x i) (same i a b))
  where
    by : (i : ℕ) (a b : Bool) → (b ≡ true → a ≡ true) → if (not a) (u t i) 0 ≤ if (not b) (u t i) 0
    by i true b e = omega arith
    by i false false e = omega arith
    by i false true e = true_false (sym (e refl))

-- ---- sets that may be out together

module _ (p : Problem) where
  -- one unit more
  pub headcount_joined : (o q : NumSet) (i : ℕ) → i < p.units → o i ≡ false → Joins o i q → headcount p q ≡ headcount p o + 1
  unfolding headcount counts_one
  headcount_joined o q i l e j = sum_joined p.units i o q counts_one l e j

  -- fewer units
  pub compatible_fewer : (x y : NumSet) → ((i : ℕ) → y i ≡ true → x i ≡ true) → Compatible p x → Compatible p y
  unfolding headcount
  compatible_fewer x y sub c = record {
    crewed = omega (arith, c.crewed, sum_subset p.units y x counts_one (λ i l. sub i));
    apart = λ n l e. not_so (y (p.pair_b n)) (λ f. true_false (sym (sub (p.pair_b n) f) ∙ c.apart n l (sub (p.pair_a n) e)));
  }

  -- not two that form an excluded pair
  pub apart_barred : (o : NumSet) (i j : ℕ) → i < p.units → o i ≡ true → apart p i j ≡ true → Barred p o j
  apart_barred o i j l e pair = record { never = λ x c all y. true_false (sym pair ∙ compatible_clear p x i j c (all i l e) y) }

  -- nor with more units out
  barred_more : (o q : NumSet) (i : ℕ) → ((k : ℕ) → o k ≡ true → q k ≡ true) → Barred p o i → Barred p q i
  barred_more o q i sub b = record { never = λ x c all y. b.never x c (λ j l e. all j l (sub j e)) y }

  -- a unit that need not be tried need not be with more out
  pub needless_more : (u : ℕ → ℕ → ℕ) (t : ℕ) (o q : NumSet) (i : ℕ) → ((k : ℕ) → o k ≡ true → q k ≡ true) → Needless p u t o i → Needless p u t q i
  needless_more u t o q i sub (inl e) = inl (sub i e)
  needless_more u t o q i sub (inr (inl e)) = inr (inl e)
  needless_more u t o q i sub (inr (inr b)) = inr (inr (barred_more o q i sub b))
