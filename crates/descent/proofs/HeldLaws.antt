-- A start that holds: the plan that is known has it, a probe finds one with it, or none is left.
-- Assumes nothing.
use Prim.Native.Nat.{ℕ, ◌+◌, ◌-◌, ◌≤◌, ◌<◌}
use mathlib.Core.Path.{◌≡◌, refl, sym, ◌∙◌, ap, subst, subst₂}
use mathlib.Core.Bool.{Bool, true, false}
use mathlib.Core.List.{List}
use native.Mathlib.Omega.{arith}
use lib.ListN.{get_or}
use borrow.Author.Count.{below_more}
use borrow.Author.Tests.{ltb-true, lt-ltb}
use Rattle.sums.specs.NumSet.{has}
use Rattle.sums.specs.Table.{entry}
use Rattle.sums.proofs.LogicLaws.{true_false}
use Rattle.model.specs.Order.{Same}
use Rattle.model.proofs.FileLaws.{ranged, fair}
use Rattle.instance.specs.declared.file.File.{File}
use Rattle.instance.specs.File.{problem}
use Rattle.instance.specs.declared.Euro.{Euro}
use Rattle.blame.proofs.ClosedLaws.{closed_more}
use Rattle.tables.specs.Tables.{price_in}
use Rattle.relaxation.specs.Relaxed.{MemoTrue}
use Rattle.dual.specs.declared.Node.{Node}
use Rattle.bound.specs.Tests.{Blames}
use Rattle.state.specs.declared.State.{State}
use Rattle.state.specs.declared.Step.{Step}
use Rattle.state.specs.declared.Walked.{Walked}
use Rattle.state.specs.declared.Walked.TheVariants.{Dead, Spent}
use Rattle.state.specs.State.{limited_to}
use Rattle.walk.specs.Walk.{Carried, Unspent}
use Rattle.walk.proofs.StateLaws.{carried_same, held_carried}
use Rattle.probe.specs.declared.Visit.{Visit}
use Rattle.probe.specs.Probe.{Says, Probed, Opened, PlaceDue, PlaceDone}
use Rattle.descent.specs.declared.Descent.{Descent}
use Rattle.descent.specs.declared.Ending.TheVariants.{Earliest, NextStart, Spent as TriesSpent}
use Rattle.descent.specs.Descent.{Descending, Lowering, UnitNeeds, HeldDue, Keeps, Told, IsAt, Failed, Found}
use Rattle.descent.proofs.DescentLaws.{earliest_next, earliest_spent, next_spent, lowering_next, lowering_kept, lowering_found}

-- ---- the start of the unit placed last

pub keeps_so : (node : Node) (best : List ℕ) (j : ℕ) → j ≡ node.unit - 1 → get_or node.starts j 0 ≡ get_or best j 0 → Keeps node best true
unfolding entry
keeps_so node best j is e = record { same = λ _. subst (λ (i : ℕ). get_or node.starts i 0 ≡ get_or best i 0) is e }

pub keeps_not : (node : Node) (best : List ℕ) → Keeps node best false
keeps_not node best = record { same = λ z. true_false (sym z) }

-- ---- what a probe told

-- a plan
pub told_plan : (step : Step) (limit : Euro) (s : State) (r : Descent) → s ≡ limited_to step.state limit → step.state.limit.0 < limit.0
    → r ≡ record { state = s; ending = Earliest } → Told step limit r
told_plan step limit s r es less is = subst (Told step limit) (sym is) (record {
  used_is = ap (λ (x : State). x.used) es;
  less = λ _. less;
  plan = λ _. es;
  unspent = λ z. earliest_next Earliest refl z;
  none = λ z. earliest_next Earliest refl z;
  same = λ z. earliest_next Earliest refl z;
})

-- the tries are spent
pub told_spent : (step : Step) (limit : Euro) (r : Descent) → r ≡ record { state = step.state; ending = TriesSpent } → Told step limit r
told_spent step limit r is = subst (Told step limit) (sym is) (record {
  used_is = refl;
  less = λ z. earliest_spent TriesSpent z refl;
  plan = λ z. earliest_spent TriesSpent z refl;
  unspent = λ z. next_spent TriesSpent z refl;
  none = λ z. next_spent TriesSpent z refl;
  same = λ z. next_spent TriesSpent z refl;
})

-- none
pub told_none : (step : Step) (limit : Euro) (b : ℕ) (r : Descent) → step.walked ≡ Dead b → limit.0 ≤ step.state.limit.0
    → r ≡ record { state = step.state; ending = NextStart } → Told step limit r
told_none step limit b r dead le is = subst (Told step limit) (sym is) (record {
  used_is = refl;
  less = λ z. earliest_next NextStart z refl;
  plan = λ z. earliest_next NextStart z refl;
  unspent = λ _. subst Unspent (sym dead) tt;
  none = λ _. le;
  same = λ _. refl;
})

-- ---- a plan with the starts placed

module _ (file : File) (us rows ys : List ℕ) (at : Visit) (w memo : List ℕ) (d : HeldDue file us rows ys at w memo) where
  -- the unit placed last is one of sixteen
  pub held_some : 1 ≤ at.visit.node.unit
  unfolding HeldDue
  held_some = omega (arith, d.next)

  pub held_few : at.visit.node.unit ≤ 16
  unfolding HeldDue
  held_few = omega (arith, d.next, d.inside, (ranged file.words.now file.filed.passed).units_most)

  unfoldable held_unit : ℕ
  unfolding HeldDue
  held_unit = d.j

  unfoldable held_cost : ℕ
  unfolding HeldDue
  held_cost = d.cost

  -- a probe may begin
  pub held_places : PlaceDue file us rows ys at w memo
  unfolding HeldDue PlaceDue
  held_places = record { walking = d.walking; opened = d.opened }

  -- and it has a memo
  pub held_recalls : MemoTrue (problem file) (price_in us) memo
  unfolding HeldDue
  held_recalls = d.walking.recalls

  -- the plan that is known has the start
  pub found_kept : (keeps : Bool) (r : Descent) → Keeps at.visit.node at.visit.state.best keeps → keeps ≡ true
      → r ≡ record { state = at.visit.state; ending = Earliest } → Found file us rows ys at w w memo r
  unfolding HeldDue Found
  found_kept keeps r k so is_so =
      let e : r.state ≡ at.visit.state = ap (λ (x : Descent). x.state) is_so in
      let unit_is : at.visit.node.unit - 1 ≡ d.j = omega (arith, d.next) in
      let here : entry at.visit.node.starts d.j ≡ entry at.visit.state.best d.j
      = subst (λ (i : ℕ). entry at.visit.node.starts i ≡ entry at.visit.state.best i) unit_is (k.same so) in
      let down : Descending (problem file) (entry at.visit.state.best) d.cost (d.j + 1)
      = lowering_kept (problem file) (entry at.visit.state.best) d.cost d.j (entry at.visit.node.starts d.j) here d.lowering in
      record {
        carried = rw e (carried_same (problem file) w at.visit.state.used);
        limit_is = λ _. ap (λ (x : State). x.limit.0) e;
        unit = λ _ below is.
            let state_is : below.visit.state ≡ at.visit.state = is.state_is ∙ e in
            record {
              walking = d.walking;
              opened = subst₂ (Opened (problem file) w us rows ys) (sym is.node_is) (sym state_is) d.opened;
              unit = rw is.node_is (omega (arith, d.next, d.inside));
              follows = record {
                order = rw is.node_is d.order;
                agrees = rw (is.node_is, state_is) (agrees here);
                cost = d.cost;
                limit_is = ap (λ (x : State). x.limit.0) state_is ∙ d.limit_is;
              };
              descending = rw (is.node_is, state_is, d.next) down;
            };
        fails = λ z. earliest_next r.ending (ap (λ (x : Descent). x.ending) is_so) z;
      }
    where
      agrees : entry at.visit.node.starts d.j ≡ entry at.visit.state.best d.j → Same at.visit.node.unit (entry at.visit.node.starts) (entry at.visit.state.best)
      agrees here = rw d.next (below_more (λ k. entry at.visit.node.starts k ≡ entry at.visit.state.best k) d.j d.agrees here)

  module _ (w' memo' : List ℕ) (step : Step) (r : Descent)
      (done : PlaceDone (problem file) w w' at.visit.node at.visit.state step) (told : Told step at.visit.state.limit r) (recalls : MemoTrue (problem file) (price_in us) memo') where
    x : Probed (problem file) (has at.visit.node.placed) (entry at.visit.node.starts) w w' at.visit.state step
    unfolding PlaceDone
    x = done

    carried : Carried (problem file) w at.visit.state.used w' r.state.used
    carried = rw told.used_is x.goes.carried

    -- the probe's plan with the starts placed
    module _ (so : r.ending ≡ Earliest) where
      best_is : r.state.best ≡ step.state.best
      best_is = ap (λ (s : State). s.best) (told.plan so)

      limit_is : r.state.limit.0 ≡ at.visit.state.limit.0
      limit_is = ap (λ (s : State). s.limit.0) (told.plan so)

      fell : step.state.limit.0 < at.visit.state.limit.0
      fell = omega (arith, told.less so)

      plan_has : (k : ℕ) → k < at.visit.node.unit → entry step.state.best k ≡ entry at.visit.node.starts k
      unfolding HeldDue
      plan_has k m =
          (x.improves.reached fell).agrees k (omega (arith, d.next, d.inside)) (d.order.each k ∙ lt-ltb k at.visit.node.unit m)

      down : Descending (problem file) (entry step.state.best) held_cost (held_unit + 1)
      unfolding HeldDue held_cost held_unit
      down =
          lowering_found (problem file) (entry at.visit.state.best) d.cost d.j (entry step.state.best) (entry at.visit.node.starts d.j)
          step.state.limit.0 (fair file.words.now file.filed.passed)
          (λ k m. sym (d.agrees k m) ∙ sym (plan_has k (omega (arith, d.next)))) (plan_has d.j (omega (arith, d.next)))
          (x.improves.reached fell).plan_at (omega (arith, fell, d.limit_is)) d.lowering

      unit_next : (below : Visit) → IsAt at r.state below → UnitNeeds file us rows ys below w' memo'
      unfolding HeldDue held_cost held_unit
      unit_next below is = record {
        walking = record { dual = d.walking.dual; recalls = recalls };
        opened = subst₂ (Opened (problem file) w' us rows ys) (sym is.node_is) (sym is.state_is) (record {
          within = d.opened.within;
          long = d.opened.long;
          stands = d.opened.stands;
          tallied = d.opened.tallied;
          small = rw limit_is d.opened.small;
          held = held_carried (problem file) w w' at.visit.state.used r.state.used d.opened.held carried;
        });
        unit = rw is.node_is (omega (arith, d.next, d.inside));
        follows = record {
          order = rw is.node_is d.order;
          agrees = rw (is.node_is, is.state_is, best_is) (λ k m. sym (plan_has k m));
          cost = d.cost;
          limit_is = ap (λ (s : State). s.limit.0) is.state_is ∙ (limit_is ∙ d.limit_is);
        };
        descending = rw (is.node_is, is.state_is, best_is, d.next) down;
      }

    -- no plan with them
    module _ (so : r.ending ≡ NextStart) where
      state_same : r.state ≡ step.state
      state_same = told.same so

      stays : at.visit.state.limit.0 ≤ step.state.limit.0
      stays = omega (arith, told.none so)

      plan_same : entry step.state.best ≡ entry at.visit.state.best
      plan_same = x.improves.kept stays

      num_same : step.state.limit.0 ≡ at.visit.state.limit.0
      num_same = omega (arith, stays, x.improves.falls)

      closes : (c : ℕ) → at.visit.state.limit.0 ≡ c + 1 → (k : Walked) → step.walked ≡ k → Unspent k
          → Lowering (problem file) (entry at.visit.state.best) c held_unit (entry at.visit.node.starts held_unit + 1)
      unfolding HeldDue held_unit
      closes c e (Spent m) q u = absurd u
      closes c e (Dead b) q u =
          let z : c ≡ d.cost = omega (arith, e, d.limit_is) in
          let h : Blames (problem file) (has at.visit.node.placed) (entry at.visit.node.starts) step.state.limit.0 b
          = subst (Says (problem file) (has at.visit.node.placed) (entry at.visit.node.starts) step.state.limit.0) q x.says in
          lowering_next (problem file) (entry at.visit.state.best) c d.j at.visit.node.starts b d.agrees
          (λ k g. omega (arith, ltb-true k at.visit.node.unit (sym (d.order.each k) ∙ h.within k g), d.next))
          (closed_more (problem file) (has b) (has b) (entry at.visit.node.starts) step.state.limit.0 (c + 1) (λ i m g. g) (omega (arith, num_same, e)) h.closed)
          (rw z d.lowering)

      failed : Failed (problem file) (at.visit.node.unit - 1) (entry at.visit.node.starts (at.visit.node.unit - 1)) at.visit.state r.state
      unfolding HeldDue held_unit
      failed =
          let unit_is : at.visit.node.unit - 1 ≡ d.j = omega (arith, d.next) in
          rw unit_is (record {
            best_is = ap (λ (s : State). entry s.best) state_same ∙ plan_same;
            limit_is = ap (λ (s : State). s.limit.0) state_same ∙ num_same;
            lowering = λ c e. rw (state_same, plan_same) (closes c e step.walked refl (told.unspent so));
          })

    -- as it told
    pub found_told : Found file us rows ys at w w' memo' r
    unfolding Found
    found_told = record { carried = carried; limit_is = limit_is; unit = unit_next; fails = failed }
