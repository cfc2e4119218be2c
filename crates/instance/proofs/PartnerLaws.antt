-- The partners of a unit, a pair at a time: what the code's tests of a pair's two units say of `joins`.
-- Assumes nothing.
use Prim.Native.Nat.{ℕ, ◌≤◌}
use mathlib.Core.Path.{◌≡◌, refl, sym, ◌∙◌, ap}
use mathlib.Core.Bool.{Bool, false, ◌&&◌, ◌||◌, and-true, and-false, or-false, or_self}
use native.Mathlib.Decide.{ℕ_discrete}
use lib.Dec.{eqb}
use borrow.Author.Tests.{eq-eqb, ne_eqb}
use Rattle.sums.specs.NumSet.{has, with}
use Rattle.sums.proofs.LoopLaws.{Gathered, gathered_ended}
use Rattle.model.specs.Problem.{Problem}
use Rattle.model.specs.Pairs.{joins, apart}

-- ---- the two units of a pair, a and b, and a unit i

-- the test of two numbers goes both ways
eqb_turned : (a b : ℕ) → eqb a b ≡ eqb b a
eqb_turned a b = go (ℕ_discrete a b)
  where
    go : Dec (a ≡ b) → eqb a b ≡ eqb b a
    go (yes e) = rw e
    go (no n) = ne_eqb a b n ∙ sym (ne_eqb b a (λ e. n (sym e)))

-- i is the first: the partner is the second
first_joined : (a b j : ℕ) → (eqb a a && eqb b j || eqb a j && eqb b a) ≡ eqb j b
first_joined a b j = go (ℕ_discrete b a)
  where
    go : Dec (b ≡ a) → (eqb a a && eqb b j || eqb a j && eqb b a) ≡ eqb j b
    go (yes e) = rw e (simp (eq-eqb a a refl, and-true, or_self) (eqb_turned a j))
    go (no n) = simp (eq-eqb a a refl, ne_eqb b a n, and-false, or-false) (eqb_turned b j)

-- i is the second alone: the partner is the first
second_joined : (a b j : ℕ) → (a ≡ b → ⊥) → (eqb a b && eqb b j || eqb a j && eqb b b) ≡ eqb j a
second_joined a b j n = simp (ne_eqb a b n, eq-eqb b b refl, and-true) (eqb_turned a j)

-- i is neither
none_joined : (a b i j : ℕ) → (a ≡ i → ⊥) → (b ≡ i → ⊥) → (eqb a i && eqb b j || eqb a j && eqb b i) ≡ false
none_joined a b i j n m = simp (ne_eqb a i n, ne_eqb b i m, and-false)

-- ---- what pair n adds to the partners found so far

module _ (p : Problem) (i n a b found : ℕ) (ea : a ≡ p.pair_a n) (eb : b ≡ p.pair_b n) where
  -- its second unit, where unit i is the first
  pub added_second : (r : ℕ) → a ≡ i → ((k : ℕ) → has r k ≡ with (has found) b k) → (j : ℕ) → has r j ≡ (has found j || joins p i j n)
  unfolding joins
  added_second r e h j = rw (← ea, ← eb, ← e) (h j ∙ ap (λ (t : Bool). has found j || t) (sym (first_joined a b j)))

  -- its first unit, where unit i is the second alone
  pub added_first : (r : ℕ) → (a ≡ i → ⊥) → b ≡ i → ((k : ℕ) → has r k ≡ with (has found) a k) → (j : ℕ) → has r j ≡ (has found j || joins p i j n)
  unfolding joins
  added_first r d e h j =
      rw (← ea, ← eb, ← e) (h j ∙ ap (λ (t : Bool). has found j || t) (sym (second_joined a b j (λ q. d (q ∙ e)))))

  -- nothing, where unit i is neither
  pub added_none : (a ≡ i → ⊥) → (b ≡ i → ⊥) → (j : ℕ) → has found j ≡ (has found j || joins p i j n)
  unfolding joins
  added_none d g j = rw (← ea, ← eb) (simp (none_joined a b i j d g, or-false))

-- after all pairs: the partners
pub partners_found : (p : Problem) (i n count found : ℕ) → Gathered (joins p i) n found → count ≡ p.pairs → n ≤ count → count ≤ n
    → (j : ℕ) → has found j ≡ apart p i j
unfolding apart
partners_found p i n count found g e h l = rw (← e) (gathered_ended (joins p i) n count found g h l)
