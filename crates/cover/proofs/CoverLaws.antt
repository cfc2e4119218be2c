-- The choice of a cover finds the least weight, and changes nothing where no cover is lighter than the best.
-- Assumes nothing.
use Prim.Native.Nat.{ℕ, zero, suc, ◌+◌, ◌-◌, ◌≤◌, ◌<◌}
use mathlib.Core.Path.{◌≡◌, refl, sym, ◌∙◌, ap, subst}
use mathlib.Core.Bool.{Bool, true, false, ◌&&◌}
use mathlib.Core.Logic.{◌⊎◌, inl, inr}
use native.Mathlib.Nat.{le_refl, le_trans}
use native.Mathlib.Decide.{ℕ_discrete}
use native.Mathlib.Omega.{arith}
use lib.Dec.{ltb, eqb}
use borrow.Author.Tests.{ltb-true, ltb-false, le-ltb, eq-eqb, ne_eqb}
use Rattle.sums.specs.Logic.{if}
use Rattle.sums.specs.Sum.{sum_to}
use Rattle.sums.specs.NumSet.{NumSet, only_in, with, without}
use Rattle.sums.proofs.LogicLaws.{true_false}
use Rattle.sums.proofs.SumLaws.{sum_same}
use Rattle.sums.proofs.NumSetLaws.{pick_agree, with_at, with_else, without_at, without_else}
use Rattle.cover.specs.Cover.{Covers, Reached, UNCOVERED, Candidate, LeastCover, lighter_cover, cover_to}

-- ---- a set with unit k left out, and with it taken

-- a sum over the units below k + 1, by what the set does with unit k
sum_passed : (k : ℕ) (z : NumSet) (f : ℕ → ℕ) → z k ≡ false → sum_to (suc k) (only_in z f) ≡ sum_to k (only_in z f)
unfolding sum_to only_in
sum_passed k z f e = rw e (omega arith)

sum_taken : (k : ℕ) (z : NumSet) (f : ℕ → ℕ) → z k ≡ true → sum_to (suc k) (only_in z f) ≡ sum_to k (only_in z f) + f k
unfolding sum_to only_in
sum_taken k z f e = rw e

without_below : (k : ℕ) (z : NumSet) (i : ℕ) → i < k → without z k i ≡ z i
without_below k z i h = without_else z k i (λ e. omega arith)

with_below : (k : ℕ) (z : NumSet) (i : ℕ) → i < k → with z k i ≡ z i
with_below k z i h = with_else z k i (λ e. omega arith)

without_sum : (k : ℕ) (z : NumSet) (f : ℕ → ℕ) → sum_to (suc k) (only_in (without z k) f) ≡ sum_to k (only_in z f)
without_sum k z f = sum_passed k (without z k) f (without_at z k) ∙ pick_agree k z (without z k) f (without_below k z)

with_sum : (k : ℕ) (z : NumSet) (f : ℕ → ℕ) → sum_to (suc k) (only_in (with z k) f) ≡ sum_to k (only_in z f) + f k
with_sum k z f = sum_taken k (with z k) f (with_at z k) ∙ ap (λ (a : ℕ). a + f k) (pick_agree k z (with z k) f (with_below k z))

module _ (free : NumSet) (gives weighs : ℕ → ℕ) where
  -- ---- covers with one unit more

  without_covers : {k need : ℕ} {z : NumSet} → Covers free gives k need z → Covers free gives (suc k) need (without z k)
  without_covers {k} {need} {z} c = record { allowed = λ i l e. by i l e (ℕ_discrete i k); enough = omega (arith, c.enough, without_sum k z gives) }
    where
      by : (i : ℕ) → i < suc k → without z k i ≡ true → Dec (i ≡ k) → free i ≡ true
      by i l e (yes q) = true_false (sym e ∙ ap (without z k) q ∙ without_at z k)
      by i l e (no n) = let b : i < k = omega arith in c.allowed i b (sym (without_below k z i b) ∙ e)

  with_covers : {k need : ℕ} {z : NumSet} → free k ≡ true → Covers free gives k (need - gives k) z → Covers free gives (suc k) need (with z k)
  with_covers {k} {need} {z} f c = record { allowed = λ i l e. by i l e (ℕ_discrete i k); enough = omega (arith, c.enough, with_sum k z gives) }
    where
      by : (i : ℕ) → i < suc k → with z k i ≡ true → Dec (i ≡ k) → free i ≡ true
      by i l e (yes q) = ap free q ∙ f
      by i l e (no n) = let b : i < k = omega arith in c.allowed i b (sym (with_below k z i b) ∙ e)

  -- what a cover of more units leaves to those below
  covers_without : {k need : ℕ} {z : NumSet} → z k ≡ false → Covers free gives (suc k) need z → Covers free gives k need z
  covers_without {k} {need} {z} e c = record {
    allowed = λ i l. c.allowed i (omega arith);
    enough = omega (arith, c.enough, sum_passed k z gives e);
  }

  covers_with : {k need : ℕ} {z : NumSet} → z k ≡ true → Covers free gives (suc k) need z → Covers free gives k (need - gives k) z
  covers_with {k} {need} {z} e c = record { allowed = λ i l. c.allowed i (omega arith); enough = omega (arith, c.enough, sum_taken k z gives e) }

  -- ---- a turn of the choice: unit k is not free

  pub cover_passed : (k need weight best : ℕ) → free k ≡ false
      → cover_to free gives weighs (suc k) need weight best ≡ cover_to free gives weighs k need weight best
  unfolding cover_to
  cover_passed k need weight best e = rw e

  -- or it is
  pub cover_taken : (k need weight best : ℕ) → free k ≡ true → cover_to free gives weighs (suc k) need weight best ≡
      cover_to free gives weighs k (need - gives k) (weight + weighs k) (cover_to free gives weighs k need weight best)
  unfolding cover_to
  cover_taken k need weight best e = rw e

  -- ---- no choice gets below the best

  -- a set without units weighs nothing, so a need of 0 is covered at the weight of those taken before
  nothing_covers : (need : ℕ) → need ≡ 0 → Covers free gives 0 need (λ i. false)
  nothing_covers need e = record { allowed = λ i l. absurd (omega arith); enough = omega arith }

  settled_dull : (need weight best : ℕ) → (need ≡ 0 → best ≤ weight) → best ≡ lighter_cover need weight best
  unfolding lighter_cover
  settled_dull need weight best h = by (ℕ_discrete need 0)
    where
      by : Dec (need ≡ 0) → best ≡ if (eqb need 0 && ltb weight best) weight best
      by (yes e) = rw (eq-eqb need 0 e, le-ltb weight best (h e))
      by (no n) = rw (ne_eqb need 0 n)

  dull_more : (k need weight best : ℕ) → ((z : NumSet) → Covers free gives (suc k) need z → best ≤ weight + sum_to (suc k) (only_in z weighs))
      → ((n w : ℕ) → ((z : NumSet) → Covers free gives k n z → best ≤ w + sum_to k (only_in z weighs)) → best ≡ cover_to free gives weighs k n w best)
      → best ≡ cover_to free gives weighs (suc k) need weight best
  dull_more k need weight best h ih = by (free k) refl
    where
      low : best ≡ cover_to free gives weighs k need weight best
      low = ih need weight (λ z c. omega (arith, h (without z k) (without_covers c), without_sum k z weighs))

      high : free k ≡ true → best ≡ cover_to free gives weighs k (need - gives k) (weight + weighs k) best
      high e = ih (need - gives k) (weight + weighs k) (λ z c. omega (arith, h (with z k) (with_covers e c), with_sum k z weighs))

      by : (b : Bool) → free k ≡ b → best ≡ cover_to free gives weighs (suc k) need weight best
      by false e = low ∙ sym (cover_passed k need weight best e)
      by true e = high e ∙ ap (cover_to free gives weighs k (need - gives k) (weight + weighs k)) low ∙ sym (cover_taken k need weight best e)

  -- where every cover weighs as much as the best or more, the choice leaves the best as it is
  pub cover_dull : (k need weight best : ℕ) → ((z : NumSet) → Covers free gives k need z → best ≤ weight + sum_to k (only_in z weighs))
      → best ≡ cover_to free gives weighs k need weight best
  unfolding cover_to sum_to
  cover_dull zero need weight best h = settled_dull need weight best (λ e. omega (arith, h (λ i. false) (nothing_covers need e)))
  cover_dull (suc k) need weight best h = dull_more k need weight best h (λ n w. cover_dull k n w best)

  -- ---- what the choice finds

  most_more : (k need weight best : ℕ) → ((n w b : ℕ) → cover_to free gives weighs k n w b ≤ b)
      → cover_to free gives weighs (suc k) need weight best ≤ best
  most_more k need weight best ih = by (free k) refl
    where
      by : (b : Bool) → free k ≡ b → cover_to free gives weighs (suc k) need weight best ≤ best
      by false e = rw (cover_passed k need weight best e) (ih need weight best)
      by true e = rw (cover_taken k need weight best e)
          (le_trans (ih (need - gives k) (weight + weighs k) (cover_to free gives weighs k need weight best)) (ih need weight best))

  -- never more than the best so far
  pub cover_most : (k need weight best : ℕ) → cover_to free gives weighs k need weight best ≤ best
  unfolding cover_to lighter_cover
  cover_most zero need weight best = by (eqb need 0) (ltb weight best) refl
    where
      by : (a b : Bool) → ltb weight best ≡ b → if (a && b) weight best ≤ best
      by true true e = omega (arith, ltb-true weight best e)
      by true false e = le_refl best
      by false b e = le_refl best
  cover_most (suc k) need weight best = most_more k need weight best (cover_most k)

  least_more : (k need weight best : ℕ) (z : NumSet) → Covers free gives (suc k) need z
      → ((n w b : ℕ) → Covers free gives k n z → cover_to free gives weighs k n w b ≤ w + sum_to k (only_in z weighs))
      → cover_to free gives weighs (suc k) need weight best ≤ weight + sum_to (suc k) (only_in z weighs)
  least_more k need weight best z c ih = by (z k) refl
    where
      low : z k ≡ false → cover_to free gives weighs k need weight best ≤ weight + sum_to (suc k) (only_in z weighs)
      low e = omega (arith, ih need weight best (covers_without e c), sum_passed k z weighs e)

      passed : (b : Bool) → free k ≡ b → z k ≡ false → cover_to free gives weighs (suc k) need weight best ≤ weight + sum_to (suc k) (only_in z weighs)
      passed false f e = rw (cover_passed k need weight best f) (low e)
      passed true f e = rw (cover_taken k need weight best f)
          (le_trans (cover_most k (need - gives k) (weight + weighs k) (cover_to free gives weighs k need weight best)) (low e))

      by : (b : Bool) → z k ≡ b → cover_to free gives weighs (suc k) need weight best ≤ weight + sum_to (suc k) (only_in z weighs)
      by false e = passed (free k) refl e
      by true e = rw (cover_taken k need weight best (c.allowed k (omega arith) e))
          (omega (
            arith,
            ih (need - gives k) (weight + weighs k) (cover_to free gives weighs k need weight best) (covers_with e c),
            sum_taken k z weighs e,
          ))

  -- nor more than any cover weighs
  pub cover_least : (k need weight best : ℕ) (z : NumSet) → Covers free gives k need z
      → cover_to free gives weighs k need weight best ≤ weight + sum_to k (only_in z weighs)
  unfolding cover_to sum_to lighter_cover
  cover_least zero need weight best z c = by (ltb weight best) refl
    where
      by : (b : Bool) → ltb weight best ≡ b → if (eqb need 0 && ltb weight best) weight best ≤ weight + 0
      by true e = rw (eq-eqb need 0 (omega (arith, c.enough)), e) (omega arith)
      by false e = rw (eq-eqb need 0 (omega (arith, c.enough)), e) (omega (arith, ltb-false weight best e))
  cover_least (suc k) need weight best z c = least_more k need weight best z c (λ n w b. cover_least k n w b z)

  -- a cover of fewer units, or of fewer and unit k, as one of those below k + 1
  reached_without : {k need weight v : ℕ} → Reached free gives weighs k need weight v → Reached free gives weighs (suc k) need weight v
  reached_without {k} r = record {
    set = without r.set k;
    covers = without_covers r.covers;
    weight = omega (arith, r.weight, without_sum k r.set weighs);
  }

  reached_with : {k need weight v : ℕ} → free k ≡ true → Reached free gives weighs k (need - gives k) (weight + weighs k) v
      → Reached free gives weighs (suc k) need weight v
  reached_with {k} e r = record {
    set = with r.set k;
    covers = with_covers e r.covers;
    weight = omega (arith, r.weight, with_sum k r.set weighs);
  }

  -- either the best so far, or what some cover weighs
  abbrev Found : (k need weight best v : ℕ) → Type 0
  Found k need weight best v = (v ≡ best) ⊎ Reached free gives weighs k need weight v

  found_low : {k need weight best low : ℕ} → Found k need weight best low → (v : ℕ) → v ≡ low → Found (suc k) need weight best v
  found_low (inl e) v q = inl (q ∙ e)
  found_low {k} {need} {weight} (inr r) v q = inr (subst (Reached free gives weighs (suc k) need weight) (sym q) (reached_without r))

  found_high : {k need weight best low : ℕ} → free k ≡ true → Found k need weight best low → (v : ℕ)
      → Found k (need - gives k) (weight + weighs k) low v → Found (suc k) need weight best v
  found_high f l v (inl q) = found_low l v q
  found_high f l v (inr r) = inr (reached_with f r)

  found_more : (k need weight best : ℕ) → ((n w b : ℕ) → Found k n w b (cover_to free gives weighs k n w b))
      → Found (suc k) need weight best (cover_to free gives weighs (suc k) need weight best)
  found_more k need weight best ih = by (free k) refl
    where
      low : ℕ
      low = cover_to free gives weighs k need weight best

      by : (b : Bool) → free k ≡ b → Found (suc k) need weight best (cover_to free gives weighs (suc k) need weight best)
      by false f = found_low (ih need weight best) (cover_to free gives weighs (suc k) need weight best) (cover_passed k need weight best f)
      by true f = subst (Found (suc k) need weight best) (sym (cover_taken k need weight best f))
          (found_high f (ih need weight best) (cover_to free gives weighs k (need - gives k) (weight + weighs k) low)
          (ih (need - gives k) (weight + weighs k) low))

  pub cover_found : (k need weight best : ℕ) → Found k need weight best (cover_to free gives weighs k need weight best)
  unfolding cover_to lighter_cover sum_to
  cover_found zero need weight best = by (ℕ_discrete need 0) (ltb weight best) refl
    where
      by : Dec (need ≡ 0) → (b : Bool) → ltb weight best ≡ b → Found 0 need weight best (if (eqb need 0 && ltb weight best) weight best)
      by (yes e) true l = rw (eq-eqb need 0 e, l) (inr (record { set = λ i. false; covers = nothing_covers need e; weight = omega arith }))
      by (yes e) false l = rw (eq-eqb need 0 e, l) (inl refl)
      by (no n) b l = rw (ne_eqb need 0 n) (inl refl)
  cover_found (suc k) need weight best = found_more k need weight best (cover_found k)

-- the choice from a candidate on, with nothing taken yet
pub least_found : (free : NumSet) (gives weighs : ℕ → ℕ) (k need r best : ℕ) → Candidate free gives weighs k need best
    → r ≡ cover_to free gives weighs k need 0 best → LeastCover free gives weighs k need r
least_found free gives weighs k need r best c e = record {
  candidate = record { most = omega (arith, below, c.most); reached = λ l. by l (cover_found free gives weighs k need 0 best) };
  least = λ z a. omega (arith, e, cover_least free gives weighs k need 0 best z a);
}
  where
    below : r ≤ best
    below = rw e (cover_most free gives weighs k need 0 best)

    by : r < UNCOVERED → (cover_to free gives weighs k need 0 best ≡ best)
        ⊎ Reached free gives weighs k need 0 (cover_to free gives weighs k need 0 best) → Reached free gives weighs k need 0 r
    by l (inl q) = subst (Reached free gives weighs k need 0) (sym (e ∙ q)) (c.reached (omega (arith, l, e, q)))
    by l (inr a) = subst (Reached free gives weighs k need 0) (sym e) a

-- ---- tables that agree below k

terms_agree : (z : NumSet) (f g : ℕ → ℕ) (k : ℕ) → ((i : ℕ) → i < k → f i ≡ g i) → sum_to k (only_in z f) ≡ sum_to k (only_in z g)
unfolding only_in
terms_agree z f g k h = sum_same k (only_in z f) (only_in z g) (λ i l. ap (λ (a : ℕ). if (z i) a 0) (h i l))

covers_agree : (free z : NumSet) (f g : ℕ → ℕ) (k need : ℕ) → ((i : ℕ) → i < k → f i ≡ g i) → Covers free f k need z → Covers free g k need z
covers_agree free z f g k need h c = record { allowed = c.allowed; enough = omega (arith, c.enough, terms_agree z f g k h) }

-- have the same least weight
pub least_agree : (free : NumSet) (f g v w : ℕ → ℕ) (k need r : ℕ) → ((i : ℕ) → i < k → f i ≡ g i) → ((i : ℕ) → i < k → v i ≡ w i)
    → LeastCover free f v k need r → LeastCover free g w k need r
least_agree free f g v w k need r a b l = record {
  candidate = record {
    most = l.candidate.most;
    reached = λ h.
        let c = l.candidate.reached h in
        record {
          set = c.set;
          covers = covers_agree free c.set f g k need a c.covers;
          weight = omega (arith, c.weight, terms_agree c.set v w k b);
        };
  };
  least = λ z c. omega (arith, l.least z (covers_agree free z g f k need (λ i h. sym (a i h)) c), terms_agree z v w k b);
}

-- sets of free units that agree below k, too
pub least_free : (free other : NumSet) (f v : ℕ → ℕ) (k need r : ℕ) → ((i : ℕ) → i < k → free i ≡ other i)
    → LeastCover free f v k need r → LeastCover other f v k need r
least_free free other f v k need r same l = record {
  candidate = record {
    most = l.candidate.most;
    reached = λ h.
        let c = l.candidate.reached h in
        record {
          set = c.set;
          covers = record { allowed = λ i d e. sym (same i d) ∙ c.covers.allowed i d e; enough = c.covers.enough };
          weight = c.weight;
        };
  };
  least = λ z c. l.least z (record { allowed = λ i d e. same i d ∙ c.allowed i d e; enough = c.enough });
}
