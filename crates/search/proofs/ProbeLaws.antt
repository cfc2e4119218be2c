-- The walks of an ask after its probes at gaps: a plan, none, the probe at the ceiling, and the last walk.
-- Assumes nothing.
use Prim.Native.Nat.{ℕ}
use mathlib.Core.Path.{◌≡◌, refl, sym, subst}
use mathlib.Core.Bool.{Bool}
use mathlib.Core.List.{List}
use native.Mathlib.Omega.{arith}
use Rattle.sums.proofs.LogicLaws.{true_false}
use Rattle.model.specs.Problem.{Problem}
use Rattle.model.proofs.FileLaws.{fair}
use Rattle.instance.specs.declared.file.File.{File}
use Rattle.instance.specs.File.{problem}
use Rattle.tables.specs.Tables.{price_in}
use Rattle.relaxation.specs.Relaxed.{MemoTrue}
use Rattle.state.specs.declared.State.{State}
use Rattle.state.specs.declared.Step.{Step}
use Rattle.state.specs.State.{renewed_at, improved_by, dead_at}
use Rattle.walk.specs.Walk.{Carried, WalkDue, Finished}
use Rattle.walk.proofs.StateLaws.{carried_next, held_carried}
use Rattle.probe.specs.Probe.{ProbeDue, RootDone}
use Rattle.descent.specs.declared.Descent.{Descent}
use Rattle.descent.specs.declared.Ending.TheVariants.{Earliest}
use Rattle.descent.specs.Descent.{DescentDue, Descended}
use Rattle.descent.proofs.DescentLaws.{descended_best}
use Rattle.prices.specs.Ranges.{PricedFile}
use Rattle.farkas.specs.Sums.{ShowsNone}
use Rattle.search.specs.declared.gaps.Outcome.{Outcome}
use Rattle.search.specs.declared.gaps.Outcome.TheVariants.{Plan, NoPlan}
use Rattle.search.specs.declared.gaps.Probes.{Probes}
use Rattle.search.specs.declared.gaps.Probes.TheVariants.{AtPlan, AtCeiling}
use Rattle.search.specs.Walks.{OutcomeOf, Going, GoingDue, PlanDue, CeilingDue, Settles, VainDue, PlanFound, GapsVain, GapsDone}

-- where the probes at gaps have come
module _ (file : File) (us w₀ : List ℕ) (st : State) (w memo : List ℕ) (shown : Bool) (r : Probes)
    (h : GapsDone file us w₀ st w memo shown r) (s : State) where
  -- to a plan
  module _ (e : r ≡ AtPlan s) where
    found : PlanFound file us st w₀ st.used w memo shown s
    found = subst (GapsDone file us w₀ st w memo shown) e h

    pub plan_due : PlanDue file us st s w memo
    unfolding PlanDue
    plan_due = found.plan

  -- to the ask's own ceiling
  module _ (e : r ≡ AtCeiling s) where
    vain : GapsVain file us w₀ st w memo shown s
    vain = subst (GapsDone file us w₀ st w memo shown) e h

    pub vain_due : VainDue file us st s shown w memo
    unfolding VainDue
    vain_due = vain.vain

-- there
module _ (file : File) (us : List ℕ) (st s : State) (known : Bool) (w memo : List ℕ) (h : VainDue file us st s known w memo) where
  -- the free plant is asked
  pub vain_priced : PricedFile file us
  unfolding VainDue
  vain_priced = record { priced = h.ceiling.going.walking.dual.priced }

  pub vain_known : ShowsNone (problem file) known
  unfolding VainDue
  vain_known = h.none

  pub vain_recalls : MemoTrue (problem file) (price_in us) memo
  unfolding VainDue
  vain_recalls = h.ceiling.going.walking.recalls

  -- it does not show that there is none: the probe at the ceiling
  pub vain_ceiling : CeilingDue file us st s w memo
  unfolding VainDue CeilingDue
  vain_ceiling = h.ceiling

-- ---- the last walk

module _ (file : File) (us : List ℕ) (st s : State) (w memo : List ℕ) (h : GoingDue file us st s w memo) (last : State)
    (is : last ≡ renewed_at s st.limit st.budget) where
  pub last_due : WalkDue file us last w memo
  unfolding GoingDue
  last_due = subst (λ (x : State). WalkDue file us x w memo) (sym is) (record {
    walking = h.walking;
    fresh = record { nothing = refl; tries = refl; small = h.small; held = h.held };
  })

  -- it ends the ask
  pub last_ends : (w' : List ℕ) (step : Step) → Finished (problem file) w w' last step → Settles (problem file) w w' st s step
  unfolding GoingDue
  last_ends w' step finished =
      let g : Finished (problem file) w w' (renewed_at s st.limit st.budget) step = subst (λ (x : State). Finished (problem file) w w' x step) is finished in
      record {
        each = λ w₀ c. record {
          later = record {
            falls = g.later.falls;
            kept = λ ceiling i. g.later.kept ceiling (record {
              under = i.under;
              none = λ _. i.none h.nothing;
              plan = λ z. true_false (sym z);
            });
            carried = carried_next (problem file) w₀ w w' st.used s.used step.state.used c g.later.carried;
          };
          closes = g.closes;
        };
      }

-- a walk later
settles_later : (p : Problem) (w w₁ w₂ : List ℕ) (st s q : State) (step : Step) → Carried p w s.used w₁ q.used → Settles p w₁ w₂ st q step
    → Settles p w w₂ st s step
settles_later p w w₁ w₂ st s q step c h = record { each = λ w₀ d. h.each w₀ (carried_next p w₀ w w₁ st.used s.used q.used d c) }

-- ---- the descent

module _ (file : File) (us : List ℕ) (st s : State) (w memo : List ℕ) (h : PlanDue file us st s w memo) where
  pub plan_descends : DescentDue file us s w memo
  unfolding PlanDue
  plan_descends = record {
    walking = h.going.walking;
    small = omega (arith, h.planned.below, h.going.small);
    held = h.going.held;
    least = h.planned.least;
    plan = h.planned.plan;
  }

  module _ (w₁ : List ℕ) (r : Descent) (d : Descended (problem file) w w₁ s r) where
    -- the earliest plan
    pub plan_told : (step : Step) → r.ending ≡ Earliest → step ≡ dead_at (improved_by r.state r.state.best s.limit) 0
        → Settles (problem file) w w₁ st s step
    unfolding PlanDue
    plan_told step so is = subst (Settles (problem file) w w₁ st s) (sym is) (record {
      each = λ w₀ c. record {
        later = record {
          falls = omega (arith, h.planned.below);
          kept = λ ceiling i. record {
            under = omega (arith, i.under, h.planned.below);
            none = λ z. true_false z;
            plan = λ _. descended_best (problem file) r.state.best s.limit.0 (fair file.words.now file.filed.passed) (d.earliest so) ceiling
                (omega (arith, i.under, h.planned.below));
          };
          carried = carried_next (problem file) w₀ w w₁ st.used s.used r.state.used c d.carried;
        };
        closes = h.planned.least;
      };
    })

    -- the tries are spent: the last walk
    pub plan_walks : (memo₁ : List ℕ) → MemoTrue (problem file) (price_in us) memo₁ → GoingDue file us st r.state w₁ memo₁
    unfolding PlanDue GoingDue
    plan_walks memo₁ recalls = record {
      walking = record { dual = h.going.walking.dual; recalls = recalls };
      nothing = h.going.nothing;
      small = h.going.small;
      held = held_carried (problem file) w w₁ s.used r.state.used h.going.held d.carried;
    }

    pub plan_walked : (w₂ : List ℕ) (step : Step) → Settles (problem file) w₁ w₂ st r.state step → Settles (problem file) w w₂ st s step
    plan_walked w₂ step done = settles_later (problem file) w w₁ w₂ st s r.state step d.carried done

-- ---- the ask's own ceiling

module _ (file : File) (us : List ℕ) (st s : State) (w memo : List ℕ) (h : CeilingDue file us st s w memo) where
  pub ceiling_probes : ProbeDue file us s w memo
  unfolding CeilingDue
  ceiling_probes = record { walking = h.going.walking; small = omega (arith, h.own, h.going.small); held = h.going.held }

  module _ (w₁ : List ℕ) (step : Step) (done : RootDone (problem file) w w₁ s step) where
    later : (memo₁ : List ℕ) → MemoTrue (problem file) (price_in us) memo₁ → Going file us st step.state w₁ memo₁
    unfolding CeilingDue
    later memo₁ recalls = record {
      walking = record { dual = h.going.walking.dual; recalls = recalls };
      nothing = h.going.nothing;
      small = h.going.small;
      held = held_carried (problem file) w w₁ s.used step.state.used h.going.held done.goes.carried;
    }

    -- the tries are spent
    pub ceiling_walks : (memo₁ : List ℕ) → MemoTrue (problem file) (price_in us) memo₁ → GoingDue file us st step.state w₁ memo₁
    unfolding GoingDue
    ceiling_walks = later

    -- what follows ends the ask
    pub ceiling_ends : (w₂ : List ℕ) (r : Step) → Settles (problem file) w₁ w₂ st step.state r → Settles (problem file) w w₂ st s r
    ceiling_ends w₂ r x = settles_later (problem file) w w₁ w₂ st s step.state r done.goes.carried x

    module _ (o : Outcome) (t : OutcomeOf step st.limit.0 o) where
      -- a plan
      pub ceiling_plan : (memo₁ : List ℕ) → MemoTrue (problem file) (price_in us) memo₁ → o ≡ Plan → PlanDue file us st step.state w₁ memo₁
      unfolding CeilingDue PlanDue
      ceiling_plan memo₁ recalls e =
          let so : OutcomeOf step st.limit.0 Plan = subst (OutcomeOf step st.limit.0) e t in
          record {
            going = later memo₁ recalls;
            planned = record { below = so.1; least = done.settled so.0; plan = done.plan (omega (arith, so.1, h.own)) };
          }

      -- none
      pub ceiling_none : (r : Step) → o ≡ NoPlan → r ≡ dead_at (renewed_at step.state st.limit st.budget) 0
          → Settles (problem file) w w₁ st s r
      unfolding CeilingDue
      ceiling_none r e is = subst (Settles (problem file) w w₁ st s) (sym is) (record {
        each = λ w₀ c. record {
          later = record {
            falls = omega arith;
            kept = λ ceiling i. record { under = i.under; none = λ _. i.none h.going.nothing; plan = λ z. true_false (sym z) };
            carried = carried_next (problem file) w₀ w w₁ st.used s.used step.state.used c done.goes.carried;
          };
          closes = record {
            costs = λ x sound.
                let so : OutcomeOf step st.limit.0 NoPlan = subst (OutcomeOf step st.limit.0) e t in
                omega (arith, (done.settled so.0).costs x sound, so.1);
          };
        };
      })
