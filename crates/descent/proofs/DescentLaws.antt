-- The descent gives the earliest of the cheapest: what holds over units and over the starts of one unit, and what it says at the end.
-- Assumes nothing.
use Prim.Native.Nat.{ℕ, ◌+◌, ◌≤◌, ◌<◌}
use mathlib.Core.Path.{◌≡◌, refl, sym, ◌∙◌, ap, subst}
use mathlib.Core.Bool.{Bool, true, false}
use mathlib.Core.List.{List}
use mathlib.Core.Logic.{◌⊎◌, inl, inr}
use native.Mathlib.Nat.{eq-or-lt_of_le}
use native.Mathlib.Decide.{ℕ_discrete}
use native.Mathlib.Omega.{arith}
use lib.Dec.{ltb}
use borrow.Author.Tests.{ltb-true, lt-ltb}
use Rattle.sums.specs.NumSet.{has}
use Rattle.sums.specs.Table.{entry}
use Rattle.sums.proofs.LogicLaws.{true_false}
use Rattle.model.specs.Problem.{Problem, Fair}
use Rattle.model.specs.Schedule.{Schedule, out_in, Sound, cost}
use Rattle.model.specs.Order.{Same, Lower}
use Rattle.blame.specs.Closed.{Agree, Closed, Settled}
use Rattle.blame.specs.Placed.{first_units, paid, plan_of}
use Rattle.blame.proofs.PlacedLaws.{leaf_sound, leaf_cost, leaf_first}
use Rattle.walk.specs.Walk.{AllSettled, IsIncumbent}
use Rattle.probe.specs.Probe.{PlanStands, PlanAt, TriedTo}
use Rattle.descent.specs.declared.Ending.{Ending}
use Rattle.descent.specs.declared.Ending.TheVariants.{Earliest, NextStart, Spent}
use Rattle.descent.specs.Descent.{Descending, Lowering}

-- ---- how a descent comes back

is_earliest : Ending → Bool
is_earliest Earliest = true
is_earliest NextStart = false
is_earliest Spent = false

is_next : Ending → Bool
is_next Earliest = false
is_next NextStart = true
is_next Spent = false

-- in one way
pub earliest_next : {A : Type 0} (x : Ending) → x ≡ Earliest → x ≡ NextStart → A
unfolding is_earliest
earliest_next x e n = true_false (sym (ap is_earliest e) ∙ ap is_earliest n)

pub earliest_spent : {A : Type 0} (x : Ending) → x ≡ Earliest → x ≡ Spent → A
unfolding is_earliest
earliest_spent x e s = true_false (sym (ap is_earliest e) ∙ ap is_earliest s)

pub next_spent : {A : Type 0} (x : Ending) → x ≡ NextStart → x ≡ Spent → A
unfolding is_next
next_spent x n s = true_false (sym (ap is_next n) ∙ ap is_next s)

-- ---- schedules before a place

-- nothing comes before the place of no starts
pub settled_none : (p : Problem) (q : ℕ → ℕ) (limit : ℕ) → Settled p q 0 limit
settled_none p q limit = record { costs = λ s sound l. let h = l.below in absurd (omega arith) }

-- only the starts of the place count
settled_agree : (p : Problem) (q r : ℕ → ℕ) (j limit : ℕ) → Same j q r → Settled p q j limit → Settled p r j limit
settled_agree p q r j limit same settled = record {
  costs = λ s sound l. let h = l.below in settled.costs s sound (record {
    at = l.at;
    below = l.below;
    same = λ k d. l.same k d ∙ sym (same k (omega arith));
    less = subst (λ (n : ℕ). ltb (s.start l.at) n ≡ true) (sym (same l.at l.below)) l.less;
  });
}

-- one unit more, at a start below which all have failed; r may be another choice that agrees with q so far
settled_next : (p : Problem) (q r : ℕ → ℕ) (j limit : ℕ) → Same j q r → Settled p q j limit → TriedTo p (first_units j) q j (r j) limit
    → Settled p r (j + 1) limit
unfolding first_units
settled_next p q r j limit same settled tried = record { costs = λ s sound l. by s sound l (ℕ_discrete l.at j) }
  where
    by : (s : Schedule) → Sound p s → (l : Lower ltb (j + 1) s.start r) → Dec (l.at ≡ j) → limit ≤ cost p s
    by s sound l (yes e) =
        tried.costs s sound
        (λ i h f. let d = ltb-true i j f in l.same i (omega arith) ∙ sym (same i d))
        (ltb-true (s.start j) (r j) (subst (λ (k : ℕ). ltb (s.start k) (r k) ≡ true) e l.less))
    by s sound l (no ne) =
        let h = l.below in
        (settled_agree p q r j limit same settled).costs s sound (record { at = l.at; below = omega arith; same = l.same; less = l.less })

-- ---- from unit to unit, from start to start

-- nothing costs less than a plan
pub descending_start : (p : Problem) (q : ℕ → ℕ) (c : ℕ) → AllSettled p c → PlanAt p q c → Descending p q c 0
descending_start p q c least plan = record { least = least; plan = plan; settled = settled_none p q (c + 1) }

module _ (p : Problem) (q : ℕ → ℕ) (c j : ℕ) where
  -- start v is a dead end at c + 1, by units up to j
  pub lowering_next : (xs : List ℕ) (b : ℕ) → Same j (entry xs) q → ((k : ℕ) → has b k ≡ true → k < j + 1)
      → Closed p (has b) (entry xs) (c + 1) → Lowering p q c j (entry xs j) → Lowering p q c j (entry xs j + 1)
  unfolding first_units
  lowering_next xs b same within closed w = record {
    descending = w.descending;
    tried = record { costs = λ s sound agree less. by s sound agree (eq-or-lt_of_le (omega arith)) };
  }
    where
      by : (s : Schedule) → Sound p s → Agree p (first_units j) q s.start → (s.start j ≡ entry xs j) ⊎ (s.start j < entry xs j) → c + 1 ≤ cost p s
      by s sound agree (inr less) = w.tried.costs s sound agree less
      by s sound agree (inl e) = closed.costs s sound (λ k h f. at k h (within k f) (ℕ_discrete k j))
        where
          at : (k : ℕ) → k < p.units → k < j + 1 → Dec (k ≡ j) → s.start k ≡ entry xs k
          at k h d (yes z) = ap s.start z ∙ (e ∙ ap (entry xs) (sym z))
          at k h d (no ne) =
              let m : k < j = omega arith in
              agree k h (lt-ltb k j m) ∙ sym (same k m)

  -- the plan has the start: on to the next unit
  pub lowering_kept : (v : ℕ) → v ≡ q j → Lowering p q c j v → Descending p q c (j + 1)
  lowering_kept v e w = record {
    least = w.descending.least;
    plan = w.descending.plan;
    settled = settled_next p q q j (c + 1) (λ k l. refl) w.descending.settled (subst (λ (n : ℕ). TriedTo p (first_units j) q j n (c + 1)) e w.tried);
  }

  -- start v has a plan below c + 1: it costs c, and it takes the place of q
  pub lowering_found : (r : ℕ → ℕ) (v d : ℕ) → Fair p → Same j q r → r j ≡ v → PlanAt p r d → d < c + 1
      → Lowering p q c j v → Descending p r c (j + 1)
  lowering_found r v d fair same here plan cheap w = record {
    least = w.descending.least;
    plan = record { stands = plan.stands; costs = is };
    settled = settled_next p q r j (c + 1) same w.descending.settled
        (subst (λ (n : ℕ). TriedTo p (first_units j) q j n (c + 1)) (sym here) w.tried);
  }
    where
      s : PlanStands p r
      s = plan.stands

      is : paid p (out_in p r) ≡ c
      is =
          let m = w.descending.least.costs (plan_of p r) (leaf_sound p r fair s.units s.all s.standing) in
          omega (arith, leaf_cost p r fair s.units s.all s.standing, plan.costs)

-- ---- the end

-- the starts with each week's cheapest run are the earliest of the cheapest, under every ceiling from c on
pub descended_best : (p : Problem) (best : List ℕ) (c : ℕ) → Fair p → Descending p (entry best) c p.units → (ceiling : ℕ) → c ≤ ceiling
    → IsIncumbent p ceiling best c
descended_best p best c fair d ceiling le =
    let s = d.plan.stands in
    record {
      sound = leaf_sound p (entry best) fair s.units s.all s.standing;
      costs = leaf_cost p (entry best) fair s.units s.all s.standing ∙ d.plan.costs;
      allowed = le;
      first = λ q sound earlier.
          let f = leaf_first p (entry best) fair s.units s.all s.standing (c + 1) d.settled (omega (arith, d.plan.costs)) q sound earlier in
          omega (arith, d.plan.costs);
    }
