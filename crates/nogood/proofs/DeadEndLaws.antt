-- The starts of units who share the blame make a nogood: permitted choices, units rising, and a claim that is true at its bound.
-- Assumes nothing.
use Prim.Native.Nat.{ℕ, zero, suc, ◌+◌, ◌-◌, ◌≤◌, ◌<◌}
use mathlib.Core.Path.{◌≡◌, refl, sym, ◌∙◌, ap}
use mathlib.Core.Bool.{Bool, true, false}
use mathlib.Core.List.{List, [], ◌∷◌, ◌++◌}
use mathlib.Core.Logic.{⊎_elim}
use native.Mathlib.Nat.{not-suc-le-zero, le_of_suc-le-suc, eq-or-lt_of_le}
use native.Mathlib.Omega.{arith}
use lib.ListN.{length}
use Rattle.sums.specs.Logic.{if}
use Rattle.sums.specs.NumSet.{NumSet}
use Rattle.sums.proofs.LogicLaws.{true_false}
use Rattle.model.specs.Problem.{Problem}
use Rattle.model.specs.Domain.{permitted}
use Rattle.model.specs.Schedule.{Schedule, Sound, cost}
use Rattle.model.specs.Nogood.{MOST_LIMIT, Choice, Takes, Legal, IsNogood}
use Rattle.blame.specs.Closed.{Closed}
use Rattle.nogood.specs.Noting.{choice_of, choices_of, nogood_for}

-- ---- units rising

-- all units lie below v
abbrev Below : ℕ → List Choice → Type 0
Below v [] = Unit {0}
Below v (c ∷ cs) = (c.unit < v) × Below v cs

below_wider : (v w : ℕ) (cs : List Choice) → v ≤ w → Below v cs → Below w cs
below_wider v w [] l h = tt
below_wider v w (c ∷ cs) l h = (omega (arith, h.0), below_wider v w cs l h.1)

below_both : (v : ℕ) (cs ds : List Choice) → Below v cs → Below v ds → Below v (cs ++ ds)
below_both v [] ds h g = g
below_both v (c ∷ cs) ds h g = (h.0, below_both v cs ds h.1 g)

choice_below : (starts : ℕ → ℕ) (b : NumSet) (k : ℕ) → Below (suc k) (choice_of starts b k)
unfolding choice_of
choice_below starts b k = go (b k)
  where
    go : (t : Bool) → Below (suc k) (if t (record { unit = k; start = starts k } ∷ []) [])
    go true = (omega arith, tt)
    go false = tt

choices_below : (starts : ℕ → ℕ) (b : NumSet) (k : ℕ) → Below k (choices_of starts b k)
unfolding choices_of
choices_below starts b zero = tt
choices_below starts b (suc k) =
    below_both (suc k) (choices_of starts b k) (choice_of starts b k)
    (below_wider k (suc k) (choices_of starts b k) (omega arith) (choices_below starts b k)) (choice_below starts b k)

-- legal choices below v, and legal ones from v on
legal_both : (p : Problem) (u v : ℕ) (cs ds : List Choice) → u ≤ v → Legal p u cs → Below v cs → Legal p v ds → Legal p u (cs ++ ds)
legal_both p u v [] [] l h b g = tt
legal_both p u v [] (d ∷ ds) l h b g = (omega (arith, g.0), g.1, g.2, g.3)
legal_both p u v (c ∷ cs) ds l h b g = (h.0, h.1, h.2, legal_both p (c.unit + 1) v cs ds (omega (arith, b.0)) h.3 b.1 g)

module _ (p : Problem) (starts : ℕ → ℕ) (b : NumSet) where
  choice_legal : (k : ℕ) → k < p.units → (b k ≡ true → permitted p k (starts k) ≡ true) → Legal p k (choice_of starts b k)
  unfolding choice_of
  choice_legal k l e = go (b k) e
    where
      go : (t : Bool) → (t ≡ true → permitted p k (starts k) ≡ true) → Legal p k (if t (record { unit = k; start = starts k } ∷ []) [])
      go true h = (omega arith, l, h refl, tt)
      go false h = tt

  choices_legal : (k : ℕ) → k ≤ p.units → ((i : ℕ) → b i ≡ true → permitted p i (starts i) ≡ true) → Legal p 0 (choices_of starts b k)
  unfolding choices_of
  choices_legal zero l h = tt
  choices_legal (suc k) l h =
      legal_both p 0 k (choices_of starts b k) (choice_of starts b k) (omega arith) (choices_legal k (omega arith) h)
      (choices_below starts b k) (choice_legal k (omega arith) (h k))

-- ---- the claim

takes_first : (cs ds : List Choice) (s : Schedule) → Takes (cs ++ ds) s → Takes cs s
takes_first [] ds s h = tt
takes_first (c ∷ cs) ds s h = (h.0, takes_first cs ds s h.1)

takes_last : (cs ds : List Choice) (s : Schedule) → Takes (cs ++ ds) s → Takes ds s
takes_last [] ds s h = h
takes_last (c ∷ cs) ds s h = takes_last cs ds s h.1

module _ (starts : ℕ → ℕ) (b : NumSet) (s : Schedule) where
  takes_choice : (k : ℕ) → Takes (choice_of starts b k) s → b k ≡ true → s.start k ≡ starts k
  unfolding choice_of
  takes_choice k h e = go (b k) e h
    where
      go : (t : Bool) → t ≡ true → Takes (if t (record { unit = k; start = starts k } ∷ []) []) s → s.start k ≡ starts k
      go true e h = h.0
      go false e h = true_false (sym e)

  -- a schedule with the choices has the start of each unit of the set
  takes_at : (k : ℕ) → Takes (choices_of starts b k) s → (i : ℕ) → i < k → b i ≡ true → s.start i ≡ starts i
  unfolding choices_of
  takes_at zero h i l e = absurd (not-suc-le-zero l)
  takes_at (suc k) h i l e =
      ⊎_elim
      (λ (q : i ≡ k). ap s.start q
      ∙ takes_choice k (takes_last (choices_of starts b k) (choice_of starts b k) s h) (ap b (sym q) ∙ e)
      ∙ ap starts (sym q))
      (λ (m : i < k). takes_at k (takes_first (choices_of starts b k) (choice_of starts b k) s h) i m e)
      (eq-or-lt_of_le (le_of_suc-le-suc l))

-- a dead end of permitted starts is a nogood, at the bound below the limit
pub dead_end_nogood : (p : Problem) (starts : ℕ → ℕ) (b : NumSet) (k limit : ℕ) → 1 ≤ limit → limit ≤ MOST_LIMIT → k ≤ p.units
    → length (choices_of starts b k) ≤ 8 → ((i : ℕ) → b i ≡ true → permitted p i (starts i) ≡ true) → ((i : ℕ) → b i ≡ true → i < k)
    → Closed p b starts limit → IsNogood p (nogood_for starts b k limit)
dead_end_nogood p starts b k limit low high l few permits inside closed = record {
  few = few;
  small = omega arith;
  legal = choices_legal p starts b k l permits;
  holds = λ s sound takes. omega (arith, closed.costs s sound (λ i m e. takes_at starts b s k takes i (inside i e) e));
}

-- and so is the end of a walk that leaves no schedule below the limit, without choices
pub walk_end_nogood : (p : Problem) (limit : ℕ) → 1 ≤ limit → limit ≤ MOST_LIMIT → ((s : Schedule) → Sound p s → limit ≤ cost p s)
    → IsNogood p (record { bound = limit - 1; choices = [] })
walk_end_nogood p limit low high none = record {
  few = omega arith;
  small = omega arith;
  legal = tt;
  holds = λ s sound takes. omega (arith, none s sound);
}
