-- The limit and the plan of a probe, its table and its tries, one state after another; the measure.
-- Assumes nothing.
use Prim.Native.Nat.{ℕ, zero, suc, ◌+◌, ◌≤◌, ◌<◌}
use mathlib.Core.Path.{◌≡◌, refl, sym, ◌∙◌, ap, subst}
use mathlib.Core.Bool.{Bool, true, false, not}
use mathlib.Core.List.{List}
use mathlib.Core.Logic.{◌⊎◌, inl, inr, ⊎_elim}
use native.Mathlib.Nat.{le_trans, not-suc-le-zero, le_of_suc-le-suc, eq-or-lt_of_le}
use native.Mathlib.Omega.{arith}
use lib.ListN.{set}
use Rattle.sums.specs.Logic.{if}
use Rattle.sums.specs.Range.{count_to}
use Rattle.sums.specs.NumSet.{NumSet, with, complement}
use Rattle.sums.specs.Table.{entry}
use Rattle.sums.proofs.LogicLaws.{true_false, lt_or_ge}
use Rattle.sums.proofs.NumSetLaws.{with_at, with_old, with_else}
use Rattle.model.specs.Problem.{Problem}
use Rattle.state.specs.declared.State.{State}
use Rattle.walk.proofs.StateLaws.{carried_same, carried_next}
use Rattle.walk.proofs.PlaceLaws.{put_other}
use Rattle.probe.specs.Probe.{unplaced, Reached, Improves, Goes}

-- ---- the limit and the plan

module _ (p : Problem) (a : NumSet) (starts : ℕ → ℕ) where
  -- nothing has happened
  pub improves_same : (limit : ℕ) (plan : ℕ → ℕ) → Improves p a starts limit limit plan plan
  improves_same limit plan = record { falls = omega arith; reached = λ l. absurd (omega arith); kept = λ l. refl }

  -- one after the other
  pub improves_next : (l₀ l l' : ℕ) (q₀ q q' : ℕ → ℕ) → Improves p a starts l₀ l q₀ q → Improves p a starts l l' q q' → Improves p a starts l₀ l' q₀ q'
  improves_next l₀ l l' q₀ q q' x y = record {
    falls = le_trans y.falls x.falls;
    reached = λ h. go h (lt_or_ge l' l);
    kept = λ h. y.kept (omega (arith, x.falls)) ∙ x.kept (omega (arith, y.falls));
  }
    where
      go : l' < l₀ → (l' < l) ⊎ (l ≤ l') → Reached p a starts q' l'
      go h (inl less) = y.reached less
      go h (inr same) =
          let e : l ≡ l' = omega (arith, y.falls) in
          subst (λ (f : ℕ → ℕ). Reached p a starts f l') (sym (y.kept same)) (subst (Reached p a starts q) e (x.reached (omega arith)))

-- a plan with one unit more is one of these
pub improves_back : (p : Problem) (a : NumSet) (xs : List ℕ) (i v : ℕ) → a i ≡ false → (l l' : ℕ) (q q' : ℕ → ℕ)
    → Improves p (with a i) (entry (set xs i v)) l l' q q' → Improves p a (entry xs) l l' q q'
improves_back p a xs i v free l l' q q' x = record {
  falls = x.falls;
  reached = λ h. let r = x.reached h in record {
    agrees = λ k d e. r.agrees k d (with_old a i k e) ∙ put_other xs i v k (λ z. true_false (sym e ∙ (ap a z ∙ free)));
    plan_at = r.plan_at;
  };
  kept = x.kept;
}

-- ---- the table and the tries

-- nothing has happened
pub goes_same : (p : Problem) (w : List ℕ) (st : State) → Goes p w st w st
goes_same p w st = record { carried = carried_same p w st.used; budget = refl; counted = λ h. h }

-- one after the other
pub goes_next : (p : Problem) (w w₁ w₂ : List ℕ) (a b c : State) → Goes p w a w₁ b → Goes p w₁ b w₂ c → Goes p w a w₂ c
goes_next p w w₁ w₂ a b c x y = record {
  carried = carried_next p w w₁ w₂ a.used b.used c.used x.carried y.carried;
  budget = y.budget ∙ x.budget;
  counted = λ h. y.counted (x.counted h);
}

-- ---- the measure

count_same : (n : ℕ) (f g : ℕ → Bool) → ((k : ℕ) → k < n → f k ≡ g k) → count_to n f ≡ count_to n g
unfolding count_to
count_same zero f g h = refl
count_same (suc n) f g h =
    let e : ◌≡◌ {A = ℕ} (if (f n) 1 0) (if (g n) 1 0) = ap (λ (b : Bool). if {A = ℕ} b 1 0) (h n (omega arith)) in
    omega (arith, e, count_same n f g (λ k l. h k (omega arith)))

count_fewer : (n i : ℕ) (f g : ℕ → Bool) → i < n → f i ≡ true → g i ≡ false → ((k : ℕ) → k < n → (k ≡ i → ⊥) → f k ≡ g k)
    → count_to n g + 1 ≡ count_to n f
unfolding count_to
count_fewer zero i f g h ft gf same = absurd (not-suc-le-zero h)
count_fewer (suc n) i f g h ft gf same =
    ⊎_elim
    (λ (e : i ≡ n).
    let x : f n ≡ true = subst (λ (k : ℕ). f k ≡ true) e ft in
    let y : g n ≡ false = subst (λ (k : ℕ). g k ≡ false) e gf in
    rw (x, y) (omega (arith, count_same n f g (λ k l. same k (omega arith) (λ z. omega arith)))))
    (λ (l : i < n).
    let x : f n ≡ g n = same n (omega arith) (λ z. omega arith) in
    rw x (omega (arith, count_fewer n i f g l ft gf (λ k d. same k (omega arith)))))
    (eq-or-lt_of_le (le_of_suc-le-suc h))

-- one unit more placed is one fewer not placed
pub unplaced_falls : (p : Problem) (a : NumSet) (i : ℕ) → i < p.units → a i ≡ false → unplaced p (with a i) + 1 ≡ unplaced p a
unfolding unplaced complement
unplaced_falls p a i unit free =
    count_fewer p.units i (complement a) (complement (with a i)) unit (ap not free) (ap not (with_at a i)) (λ k l ne. ap not (sym (with_else a i k ne)))
