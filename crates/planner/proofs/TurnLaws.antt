-- One ask after the others: what the carry says of them, the new one included, and the run's claim for one ask more.
-- Assumes nothing.
use Prim.Native.Nat.{ℕ, ◌+◌, ◌≤◌, ◌<◌, max}
use mathlib.Core.Path.{◌≡◌, refl, sym, ◌∙◌, ap, ap₂, subst}
use mathlib.Core.Bool.{Bool, true, false, ◌||◌}
use mathlib.Core.List.{List}
use mathlib.Core.Logic.{◌⊎◌, inl, inr, ⊎_elim}
use native.Mathlib.Omega.{arith}
use lib.Dec.{ltb, leb}
use borrow.Author.Tests.{lt-ltb, ltb-true, le-leb, leb-true}
use Rattle.std.specs.Prelude.{Option, Some}
use Rattle.sums.proofs.LogicLaws.{lt_or_ge, or_last_false, or_left, or_right, same_test}
use Rattle.model.specs.Problem.{Problem}
use Rattle.model.specs.Schedule.{Schedule, schedule_of, Sound, cost}
use Rattle.model.specs.Best.{Everywhere}
use Rattle.model.specs.Answer.{Answer, optimal, infeasible, incumbent, unknown, Found, Correct}
use Rattle.model.specs.Asks.{Follows, settles}
use Rattle.search.specs.declared.Reply.{Reply}
use Rattle.walk.specs.Walk.{AllSettled}
use Rattle.search.specs.Ask.{answer_of}
use Rattle.planner.specs.declared.Carry.{Carry}
use Rattle.planner.specs.Carry.{PlanKnown, Knows, has_plan, settled_by, Remembers, Replied, Keeps}
use Rattle.planner.proofs.CarryLaws.{found_under}

-- ---- answers

-- what an answer's schedule costs
cost_in : Answer → ℕ
cost_in (optimal k ss rs) = k
cost_in infeasible = 0
cost_in (incumbent k ss rs mark) = k
cost_in (unknown mark) = 0

-- its status
status_in : Answer → ℕ
status_in (optimal k ss rs) = 1
status_in infeasible = 2
status_in (incumbent k ss rs mark) = 3
status_in (unknown mark) = 4

-- a plan is not none
plan_not_none : {A : Type 0} (k : ℕ) (ss rs : List ℕ) → optimal k ss rs ≡ infeasible → A
unfolding status_in
plan_not_none k ss rs e = let z : ◌≡◌ {A = ℕ} 1 2 = ap status_in e in absurd (omega arith)

-- ---- the carry after an answer

module _ (p : Problem) (ceiling budget : ℕ) (m : Carry) (w w' : List ℕ) (r : Reply) (knows : Knows p m) (told : Replied p ceiling budget m w w' r)
    (m' : Carry) where
  -- where a plan is known, none is told below its cost alone
  none_below : answer_of p r ≡ infeasible → (q : Reply) → m.plan ≡ Some q → ceiling < m.least.0
  none_below e q k =
      ⊎_elim (λ (l : ceiling < m.least.0). l)
      (λ (g : m.least.0 ≤ ceiling). plan_not_none m.least.0 plan.starts plan.runs (sym plan.is ∙ (sym (told.again q k g) ∙ e)))
      (lt_or_ge ceiling m.least.0)
    where
      plan : PlanKnown p m.least.0 q
      plan = knows.plan q k

  -- a known plan is told again
  plan_again : (k : ℕ) (ss rs : List ℕ) → answer_of p r ≡ optimal k ss rs → (q : Reply) → m.plan ≡ Some q → answer_of p r ≡ answer_of p q
  plan_again k ss rs e q g =
      ⊎_elim (λ (l : ceiling < m.least.0). plan_not_none k ss rs (sym e ∙ told.below l)) (told.again q g) (lt_or_ge ceiling m.least.0)

  -- the same carry, but for the words used
  knows_same : (m'.plan ≡ m.plan) × (m'.least.0 ≡ m.least.0) → Knows p m'
  knows_same e = record {
    least = subst (AllSettled p) (sym e.1) knows.least;
    plan = λ q k. subst (λ (x : ℕ). PlanKnown p x q) (sym e.1) (knows.plan q (sym e.0 ∙ k));
  }

  -- is right
  pub knows_next : (a : Answer) → answer_of p r ≡ a → Correct p ceiling budget a → Keeps m ceiling r m' a → Knows p m'
  knows_next (optimal k ss rs) e c h = record {
    least = record { costs = λ s d. omega (arith, c.best.least s d tt, c.costs, h.1) };
    plan = λ q g. subst (PlanKnown p m'.least.0) (one q g) (record {
      starts = ss;
      runs = rs;
      is = e ∙ ap (λ (x : ℕ). optimal x ss rs) (sym h.1);
      found = subst (λ (x : ℕ). Found p x Everywhere x ss rs) (sym h.1) (found_under p ceiling k k Everywhere ss rs c (omega arith));
      small = told.small;
    });
  }
    where
      one : (q : Reply) → m'.plan ≡ Some q → r ≡ q
      one q g = let z : Some r ≡ Some q = sym h.0 ∙ g in cc
  knows_next infeasible e c h = record {
    least = record { costs = dear };
    plan = λ q g. kept (none_below e q (sym h.0 ∙ g)) q g;
  }
    where
      dear : (s : Schedule) → Sound p s → m'.least.0 ≤ cost p s
      dear s d =
          ⊎_elim (λ (l : cost p s < ceiling + 1). absurd (c s tt (record { sound = d; cheap = omega arith })))
          (λ (g : ceiling + 1 ≤ cost p s). omega (arith, h.1, knows.least.costs s d))
          (lt_or_ge (cost p s) (ceiling + 1))

      kept : ceiling < m.least.0 → (q : Reply) → m'.plan ≡ Some q → PlanKnown p m'.least.0 q
      kept l q g = (knows_same (h.0, omega (arith, h.1))).plan q g
  knows_next (incumbent k ss rs mark) e c h = knows_same h
  knows_next (unknown mark) e c h = knows_same h

  -- what was told before is still in it
  recalls_same : (m'.plan ≡ m.plan) → m.least.0 ≤ m'.least.0 → (c : ℕ) (b : Answer) → Remembers p m c b → Remembers p m' c b
  recalls_same q l c (optimal n ss rs) g = record { plan = g.plan; is = q ∙ g.is; says = g.says }
  recalls_same q l c infeasible g = omega arith
  recalls_same q l c (incumbent n ss rs mark) g = tt
  recalls_same q l c (unknown mark) g = tt

  recalls_plan : (n : ℕ) (ss rs : List ℕ) → answer_of p r ≡ optimal n ss rs → Found p ceiling Everywhere n ss rs → Keeps m ceiling r m'
      (optimal n ss rs)
      → (c : ℕ) (b : Answer) → Remembers p m c b → Remembers p m' c b
  recalls_plan n ss rs e f h c (optimal k xs ys) g = record { plan = r; is = h.0; says = plan_again n ss rs e g.plan g.is ∙ g.says }
  recalls_plan n ss rs e f h c infeasible g =
      omega (arith, h.1, f.costs, knows.least.costs (schedule_of ss rs) f.best.allowed.sound)
  recalls_plan n ss rs e f h c (incumbent k xs ys mark) g = tt
  recalls_plan n ss rs e f h c (unknown mark) g = tt

  pub recalls_old : (a : Answer) → answer_of p r ≡ a → Correct p ceiling budget a → Keeps m ceiling r m' a → (c : ℕ) (b : Answer) → Remembers p m c b
      → Remembers p m' c b
  recalls_old (optimal k ss rs) e f h = recalls_plan k ss rs e f h
  recalls_old infeasible e f h = let l : m.least.0 ≤ m'.least.0 = omega (arith, h.1) in recalls_same h.0 l
  recalls_old (incumbent k ss rs mark) e f h = let l : m.least.0 ≤ m'.least.0 = omega (arith, h.1) in recalls_same h.0 l
  recalls_old (unknown mark) e f h = let l : m.least.0 ≤ m'.least.0 = omega (arith, h.1) in recalls_same h.0 l

  -- and so is the answer
  pub recalls_new : (a : Answer) → answer_of p r ≡ a → Keeps m ceiling r m' a → Remembers p m' ceiling a
  recalls_new (optimal k ss rs) e h = record { plan = r; is = h.0; says = e }
  recalls_new infeasible e h = omega (arith, h.1)
  recalls_new (incumbent k ss rs mark) e h = tt
  recalls_new (unknown mark) e h = tt

  -- the answer follows from what was told before
  pub follows_new : (c : ℕ) (b : Answer) → Remembers p m c b → Follows c b ceiling (answer_of p r)
  unfolding cost_in
  follows_new c (optimal k ss rs) g = (λ l. told.again g.plan g.is (omega (arith, same)) ∙ g.says, λ l. told.below (omega (arith, same)))
    where
      same : k ≡ m.least.0
      same = ap cost_in (sym g.says ∙ (knows.plan g.plan g.is).is)
  follows_new c infeasible g = λ l. told.below (omega arith)
  follows_new c (incumbent k ss rs mark) g = tt
  follows_new c (unknown mark) g = tt

  -- ---- what is settled

  settled_same : (d : ℕ) → (m'.plan ≡ m.plan) → (m'.least.0 ≡ m.least.0) → (settled_by m d || false) ≡ settled_by m' d
  unfolding settled_by
  settled_same d k l = or_last_false (has_plan m.plan || ltb d m.least.0) ∙ ap₂ (λ (x : Option Reply) (n : ℕ). has_plan x || ltb d n) (sym k) (sym l)

  -- an ask under d is settled by the carry or by none at the ceiling
  settled_none : (d : ℕ) (k : Bool) → ((k || ltb d m.least.0) || leb d ceiling) ≡ (k || ltb d (max m.least.0 (ceiling + 1)))
  settled_none d true = refl
  settled_none d false =
      same_test (ltb d m.least.0 || leb d ceiling) (ltb d (max m.least.0 (ceiling + 1)))
      (λ e. lt-ltb d (max m.least.0 (ceiling + 1)) (there e))
      (λ e. back (ltb-true d (max m.least.0 (ceiling + 1)) e))
    where
      split : (x y : Bool) → (x || y) ≡ true → (x ≡ true) ⊎ (y ≡ true)
      split true y e = inl refl
      split false y e = inr e

      there : (ltb d m.least.0 || leb d ceiling) ≡ true → d < max m.least.0 (ceiling + 1)
      there e =
          ⊎_elim (λ (x : ltb d m.least.0 ≡ true). omega (arith, ltb-true d m.least.0 x)) (λ (y : leb d ceiling ≡ true). omega
          (arith, leb-true d ceiling y))
          (split (ltb d m.least.0) (leb d ceiling) e)

      back : d < max m.least.0 (ceiling + 1) → (ltb d m.least.0 || leb d ceiling) ≡ true
      back l =
          ⊎_elim (λ (x : d < m.least.0). or_left (ltb d m.least.0) (leb d ceiling) (lt-ltb d m.least.0 x))
          (λ (y : m.least.0 ≤ d). let z : d ≤ ceiling = omega arith in or_right (ltb d m.least.0) (leb d ceiling) (le-leb d ceiling z))
          (lt_or_ge d m.least.0)

  -- what the answer settles is added to it
  pub settled_next : (a : Answer) → Keeps m ceiling r m' a → (d : ℕ) → (settled_by m d || settles ceiling a d) ≡ settled_by m' d
  unfolding settled_by settles
  settled_next (optimal k ss rs) h d =
      or_right (has_plan m.plan || ltb d m.least.0) true refl ∙ sym (or_left (has_plan m'.plan) (ltb d m'.least.0) (ap has_plan h.0))
  settled_next infeasible h d = settled_none d (has_plan m.plan) ∙ ap₂ (λ (x : Option Reply) (n : ℕ). has_plan x || ltb d n) (sym h.0) (sym h.1)
  settled_next (incumbent k ss rs mark) h d = settled_same d h.0 h.1
  settled_next (unknown mark) h d = settled_same d h.0 h.1
