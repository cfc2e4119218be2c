-- The starts of a unit in turn: none tried yet, one more, all of them, a jump back past the unit, and a probe that stops.
-- Assumes nothing.
use Prim.Native.Nat.{ℕ, ◌+◌, ◌≤◌, ◌<◌}
use mathlib.Core.Path.{◌≡◌, sym, ◌∙◌, ap, subst}
use mathlib.Core.Bool.{true, false, not}
use mathlib.Core.List.{List}
use mathlib.Core.Logic.{◌⊎◌, inl, inr, ⊎_elim}
use native.Mathlib.Nat.{le_trans, eq-or-lt_of_le}
use native.Mathlib.Decide.{ℕ_discrete}
use native.Mathlib.Omega.{arith}
use lib.Dec.{eqb}
use lib.ListN.{length, set}
use borrow.Author.Tests.{eq-eqb, ne_eqb}
use Rattle.sums.specs.NumSet.{NumSet, has, with, without}
use Rattle.sums.specs.Table.{entry}
use Rattle.sums.proofs.LogicLaws.{true_false, and_of, and_left, and_right, or_left, or_right, or_at}
use Rattle.sums.proofs.NumSetLaws.{zero_has, with_back}
use Rattle.model.specs.Problem.{Problem}
use Rattle.model.specs.Schedule.{Schedule, Sound, cost}
use Rattle.overhaul.specs.Range.{StartRange}
use Rattle.overhaul.proofs.StartLaws.{range_at}
use Rattle.blame.specs.Closed.{Agree, Closed}
use Rattle.bound.specs.Tests.{Blames}
use Rattle.state.specs.declared.State.{State}
use Rattle.state.specs.declared.Step.{Step}
use Rattle.state.specs.declared.Walked.TheVariants.{Dead, Spent}
use Rattle.walk.specs.Walk.{Shares}
use Rattle.walk.proofs.PlaceLaws.{put_here, put_other}
use Rattle.probe.specs.Probe.{Improves, Says, Probed, TriedTo, Trying}
use Rattle.probe.proofs.PlanLaws.{improves_same, improves_next, improves_back, goes_same, goes_next}

-- another unit of a set with one more is one of the set
pub with_other : (a : NumSet) (i k : ℕ) → with a i k ≡ true → (k ≡ i → ⊥) → a k ≡ true
with_other a i k e ne = ⊎_elim (λ (h : a k ≡ true). h) (λ (q : k ≡ i). absurd (ne q)) (with_back a i k e)

-- ---- one unit's starts

-- a start fails by units among which unit i is not: a dead end by itself
pub closed_jump : (p : Problem) (xs : List ℕ) (i v : ℕ) (c : NumSet) (limit : ℕ) → c i ≡ false → Closed p c (entry (set xs i v)) limit
    → Closed p c (entry xs) limit
closed_jump p xs i v c limit free closed = record {
  costs = λ s sound agree. closed.costs s sound (λ k h e. agree k h e ∙ sym (put_other xs i v k (λ q. true_false (sym e ∙ (ap c q ∙ free)))));
}

-- no permitted start lies below the first
pub tried_none : (p : Problem) (b : NumSet) (starts : ℕ → ℕ) (i first last limit : ℕ) → StartRange p i first last → i < p.units
    → TriedTo p b starts i first limit
tried_none p b starts i first last limit range unit = record {
  costs = λ s sound agree less. absurd (omega (arith, (range_at p i first last (s.start i) range (sound.schedule.permits i unit)).0));
}

-- start v fails: it is one more, and its units but unit i share the blame
pub tried_next : (p : Problem) (xs : List ℕ) (i v : ℕ) (b c both : NumSet) (limit small : ℕ) → i < length xs → small ≤ limit
    → ((k : ℕ) → b k ≡ true → both k ≡ true) → ((k : ℕ) → c k ≡ true → (k ≡ i → ⊥) → both k ≡ true)
    → TriedTo p b (entry xs) i v limit → Closed p c (entry (set xs i v)) small → TriedTo p both (entry xs) i (v + 1) small
tried_next p xs i v b c both limit small long le left right t closed = record { costs = λ s sound agree less. by s sound agree (eq-or-lt_of_le (omega arith)) }
  where
    by : (s : Schedule) → Sound p s → Agree p both (entry xs) s.start → (s.start i ≡ v) ⊎ (s.start i < v) → small ≤ cost p s
    by s sound agree (inr less) = le_trans le (t.costs s sound (λ k h f. agree k h (left k f)) less)
    by s sound agree (inl q) = closed.costs s sound (λ k h f. at k h f (ℕ_discrete k i))
      where
        at : (k : ℕ) → k < p.units → c k ≡ true → Dec (k ≡ i) → s.start k ≡ entry (set xs i v) k
        at k h f (yes z) = ap s.start z ∙ (q ∙ (sym (put_here xs i v long) ∙ ap (entry (set xs i v)) (sym z)))
        at k h f (no ne) = agree k h (right k f ne) ∙ sym (put_other xs i v k ne)

-- ---- the loop over them

-- none was tried, and nobody is to blame
pub trying_start : (p : Problem) (a : NumSet) (starts : ℕ → ℕ) (i first last : ℕ) (w : List ℕ) (st : State) → StartRange p i first last → i < p.units
    → Trying p a starts i w w st st 0 first
trying_start p a starts i first last w st range unit = record {
  improves = improves_same p a starts st.limit.0 (entry st.best);
  within = λ k e. true_false (sym e ∙ zero_has k);
  failed = tried_none p (has 0) starts i first last st.limit.0 range unit;
  goes = goes_same p w st;
}

module _ (p : Problem) (a : NumSet) (xs : List ℕ) (i : ℕ) (w₀ w : List ℕ) (st₀ st : State) (b v : ℕ) (t : Trying p a (entry xs) i w₀ w st₀ st b v) where
  -- all have failed
  pub trying_all : (first last : ℕ) → StartRange p i first last → i < p.units → last < v → Blames p a (entry xs) st.limit.0 b
  trying_all first last range unit ended = record {
    closed = record {
      costs = λ s sound agree.
          t.failed.costs s sound agree
          (omega (arith, (range_at p i first last (s.start i) range (sound.schedule.permits i unit)).1));
    };
    within = t.within;
  }

  module _ (free : a i ≡ false) (long : i < length xs) (w' : List ℕ) (step : Step) (x : Probed p (with a i) (entry (set xs i v)) w w' st step) where
    improved : Improves p a (entry xs) st₀.limit.0 step.state.limit.0 (entry st₀.best) (entry step.state.best)
    improved =
        improves_next p a (entry xs) st₀.limit.0 st.limit.0 step.state.limit.0 (entry st₀.best) (entry st.best) (entry step.state.best)
        t.improves
        (improves_back p a xs i v free st.limit.0 step.state.limit.0 (entry st.best) (entry step.state.best) x.improves)

    -- the probe has stopped
    pub probed_stopped : (m : ℕ) → step.walked ≡ Spent m → Probed p a (entry xs) w₀ w' st₀ step
    probed_stopped m e = record {
      improves = improved;
      says = subst (Says p a (entry xs) step.state.limit.0) (sym e) tt;
      goes = goes_next p w₀ w w' st₀ st step.state t.goes x.goes;
    }

    module _ (c : ℕ) (e : step.walked ≡ Dead c) where
      over : Blames p (with a i) (entry (set xs i v)) step.state.limit.0 c
      over = subst (Says p (with a i) (entry (set xs i v)) step.state.limit.0) e x.says

      -- unit i has no share in the blame: the probe jumps back
      pub probed_jump : has c i ≡ false → Probed p a (entry xs) w₀ w' st₀ step
      probed_jump out = record {
        improves = improved;
        says = subst (Says p a (entry xs) step.state.limit.0) (sym e) (record {
          closed = closed_jump p xs i v (has c) step.state.limit.0 out over.closed;
          within = λ k f. with_other a i k (over.within k f) (λ z. true_false (sym f ∙ (ap (has c) z ∙ out)));
        });
        goes = goes_next p w₀ w w' st₀ st step.state t.goes x.goes;
      }

      -- it has: the others are kept
      pub trying_next : (both : ℕ) → Shares b c i both → Trying p a (entry xs) i w₀ w' st₀ step.state both (v + 1)
      trying_next both union = record {
        improves = improved;
        within = λ k f. of k (or_at (has b k) (without (has c) i k) (sym (union.sets k) ∙ f));
        failed = tried_next p xs i v (has b) (has c) (has both) st.limit.0 step.state.limit.0 long x.improves.falls
            (λ k f. union.sets k ∙ or_left (has b k) (without (has c) i k) f)
            (λ k f ne. union.sets k ∙ or_right (has b k) (without (has c) i k) (and_of (has c k) (not (eqb k i)) f (ap not (ne_eqb k i ne))))
            t.failed over.closed;
        goes = goes_next p w₀ w w' st₀ st step.state t.goes x.goes;
      }
        where
          of : (k : ℕ) → (has b k ≡ true) ⊎ (without (has c) i k ≡ true) → a k ≡ true
          of k (inl f) = t.within k f
          of k (inr f) = with_other a i k (over.within k (and_left (has c k) (not (eqb k i)) f)) (λ y. true_false (sym (and_right (has c k) (not (eqb k i)) f) ∙ ap not (eq-eqb k i y)))
