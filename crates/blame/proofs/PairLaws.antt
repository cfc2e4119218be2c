-- Excluded pairs seen from one unit are formula (8), both ways; and the units that may be out together.
-- Assumes nothing.
use Prim.Native.Nat.{ℕ, ◌≤◌, ◌<◌}
use mathlib.Core.Path.{◌≡◌, refl, sym, ◌∙◌, ap, subst}
use mathlib.Core.Bool.{Bool, true, false, ◌&&◌}
use mathlib.Core.Logic.{◌⊎◌, inl, inr, ⊎_elim}
use native.Mathlib.Omega.{arith}
use lib.Dec.{eqb}
use borrow.Author.Tests.{eqb-true, eq-eqb}
use Rattle.sums.specs.Sum.{counts_one}
use Rattle.sums.specs.Range.{first_to}
use Rattle.sums.specs.NumSet.{NumSet, only_in, with}
use Rattle.sums.proofs.LogicLaws.{true_false, and_of, and_left, and_right, or_left, or_right, or_at, not_so}
use Rattle.sums.proofs.RangeLaws.{some_of, first_is}
use Rattle.sums.proofs.SumLaws.{sum_zero}
use Rattle.sums.proofs.NumSetLaws.{pick_agree, with_back}
use Rattle.model.specs.Problem.{Problem, Fair}
use Rattle.model.specs.Rules.{headcount}
use Rattle.model.specs.Pairs.{joins, apart}
use Rattle.model.specs.Plan.{Compatible}

-- ---- excluded pairs, seen from one unit

-- a pair of units i and j, in either order
pub record PairOf (p : Problem) (i j : ℕ) : Type 0 where
  pub at : ℕ
  pub below : at < p.pairs
  pub ends : ((p.pair_a at ≡ i) × (p.pair_b at ≡ j)) ⊎ ((p.pair_a at ≡ j) × (p.pair_b at ≡ i))

joins_ends : (p : Problem) (i j n : ℕ) → joins p i j n ≡ true → ((p.pair_a n ≡ i) × (p.pair_b n ≡ j)) ⊎ ((p.pair_a n ≡ j) × (p.pair_b n ≡ i))
unfolding joins
joins_ends p i j n e = go (or_at (eqb (p.pair_a n) i && eqb (p.pair_b n) j) (eqb (p.pair_a n) j && eqb (p.pair_b n) i) e)
  where
    both : (x y : ℕ) → (eqb (p.pair_a n) x && eqb (p.pair_b n) y) ≡ true → (p.pair_a n ≡ x) × (p.pair_b n ≡ y)
    both x y q = (
      eqb-true (p.pair_a n) x (and_left (eqb (p.pair_a n) x) (eqb (p.pair_b n) y) q),
      eqb-true (p.pair_b n) y (and_right (eqb (p.pair_a n) x) (eqb (p.pair_b n) y) q),
    )

    go : ((eqb (p.pair_a n) i && eqb (p.pair_b n) j) ≡ true) ⊎ ((eqb (p.pair_a n) j && eqb (p.pair_b n) i) ≡ true)
        → ((p.pair_a n ≡ i) × (p.pair_b n ≡ j)) ⊎ ((p.pair_a n ≡ j) × (p.pair_b n ≡ i))
    go (inl q) = inl (both i j q)
    go (inr q) = inr (both j i q)

-- two units that are an excluded pair are so by one of the pairs
pub apart_pair : (p : Problem) (i j : ℕ) → apart p i j ≡ true → PairOf p i j
unfolding apart
apart_pair p i j e =
    let f = first_is p.pairs (joins p i j) e in
    record { at = first_to p.pairs (joins p i j); below = f.below; ends = joins_ends p i j (first_to p.pairs (joins p i j)) f.holds }

-- and the units of a pair are an excluded pair, either first
pub pair_apart : (p : Problem) (n : ℕ) → n < p.pairs → (apart p (p.pair_a n) (p.pair_b n) ≡ true) × (apart p (p.pair_b n) (p.pair_a n) ≡ true)
unfolding apart joins
pair_apart p n h = (
  some_of p.pairs (joins p (p.pair_a n) (p.pair_b n)) n h (or_left here across itself),
  some_of p.pairs (joins p (p.pair_b n) (p.pair_a n)) n h (or_right across here itself),
)
  where
    here : Bool
    here = eqb (p.pair_a n) (p.pair_a n) && eqb (p.pair_b n) (p.pair_b n)

    across : Bool
    across = eqb (p.pair_a n) (p.pair_b n) && eqb (p.pair_b n) (p.pair_a n)

    itself : here ≡ true
    itself =
        and_of (eqb (p.pair_a n) (p.pair_a n)) (eqb (p.pair_b n) (p.pair_b n))
        (eq-eqb (p.pair_a n) (p.pair_a n) refl) (eq-eqb (p.pair_b n) (p.pair_b n) refl)

-- ---- units that may be out together

-- no two of them are an excluded pair
pub compatible_clear : (p : Problem) (x : NumSet) (i j : ℕ) → Compatible p x → x i ≡ true → x j ≡ true → apart p i j ≡ false
compatible_clear p x i j c f g = not_so (apart p i j) (λ e. by (apart_pair p i j e))
  where
    both : (n : ℕ) → n < p.pairs → x (p.pair_a n) ≡ true → x (p.pair_b n) ≡ true → ⊥
    both n b a z = true_false (sym z ∙ c.apart n b a)

    by : PairOf p i j → ⊥
    by q =
        ⊎_elim
        (λ (z : (p.pair_a q.at ≡ i) × (p.pair_b q.at ≡ j)). both q.at q.below (ap x z.0 ∙ f) (ap x z.1 ∙ g))
        (λ (z : (p.pair_a q.at ≡ j) × (p.pair_b q.at ≡ i)). both q.at q.below (ap x z.0 ∙ g) (ap x z.1 ∙ f))
        q.ends

-- a set that is the same below U is as compatible
pub compatible_same : (p : Problem) (a b : NumSet) → ((i : ℕ) → i < p.units → b i ≡ a i) → Fair p → Compatible p a → Compatible p b
unfolding headcount
compatible_same p a b same fair c = record {
  crewed = omega (arith, c.crewed, pick_agree p.units a b counts_one same);
  apart = λ n h e. same (p.pair_b n) (fair.pairs_b n h) ∙ c.apart n h (sym (same (p.pair_a n) (fair.pairs_a n h)) ∙ e);
}

-- none out
pub compatible_none : (p : Problem) (a : NumSet) → ((i : ℕ) → a i ≡ false) → Compatible p a
unfolding headcount only_in
compatible_none p a none = record {
  crewed = let z = sum_zero p.units (only_in a counts_one) (λ k l. rw (none k)) in omega arith;
  apart = λ n h e. none (p.pair_b n);
}

-- one unit more out, that crews are left for and that is in no excluded pair with a unit out
pub compatible_joined : (p : Problem) (a b : NumSet) (j : ℕ) → Fair p → ((n : ℕ) → n < p.pairs → p.pair_a n < p.pair_b n) → Compatible p a
    → headcount p b ≤ p.crews → ((i : ℕ) → i < p.units → b i ≡ with a j i) → ((i : ℕ) → i < p.units → a i ≡ true → apart p j i ≡ false)
    → Compatible p b
compatible_joined p a b j fair order c crewed is clear = record { crewed = crewed; apart = apart_too }
  where
    member : (i : ℕ) → i < p.units → b i ≡ true → (a i ≡ true) ⊎ (i ≡ j)
    member i h e = with_back a j i (sym (is i h) ∙ e)

    clash : (i : ℕ) → i < p.units → a i ≡ true → (k : ℕ) → k ≡ j → apart p k i ≡ true → ⊥
    clash i h e k q pair = true_false (sym (subst (λ (z : ℕ). apart p z i ≡ true) q pair) ∙ clear i h e)

    go : (n : ℕ) → n < p.pairs → (a (p.pair_a n) ≡ true) ⊎ (p.pair_a n ≡ j) → (a (p.pair_b n) ≡ true) ⊎ (p.pair_b n ≡ j) → ⊥
    go n h (inl x) (inl y) = true_false (sym y ∙ c.apart n h x)
    go n h (inl x) (inr y) = clash (p.pair_a n) (fair.pairs_a n h) x (p.pair_b n) y (pair_apart p n h).1
    go n h (inr x) (inl y) = clash (p.pair_b n) (fair.pairs_b n h) y (p.pair_a n) x (pair_apart p n h).0
    go n h (inr x) (inr y) = omega (arith, order n h)

    apart_too : (n : ℕ) → n < p.pairs → b (p.pair_a n) ≡ true → b (p.pair_b n) ≡ false
    apart_too n h e = not_so (b (p.pair_b n)) (λ f. go n h (member (p.pair_a n) (fair.pairs_a n h) e) (member (p.pair_b n) (fair.pairs_b n h) f))
