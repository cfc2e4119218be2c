-- The whole descent: it begins with no unit placed, and ends with the earliest plan.
-- Assumes nothing.
use Prim.Native.Nat.{ℕ, ◌+◌}
use mathlib.Core.Path.{◌≡◌, refl, sym, ◌∙◌, ap, subst}
use mathlib.Core.List.{List}
use native.Mathlib.Omega.{arith}
use lib.ListN.{replicate}
use borrow.Author.Tests.{le-ltb}
use Rattle.sums.specs.NumSet.{has}
use Rattle.sums.specs.Table.{entry}
use Rattle.sums.proofs.LogicLaws.{true_false}
use Rattle.sums.proofs.NumSetLaws.{zero_has}
use Rattle.instance.specs.declared.file.File.{File}
use Rattle.instance.specs.File.{problem}
use Rattle.instance.specs.declared.Euro.{Euro}
use Rattle.std.proofs.Common.{Result, Ok}
use Rattle.bound.specs.Tests.{AllStand, RootValues, Rooted, RootDue}
use Rattle.bound.proofs.RowLaws.{rows_none}
use Rattle.state.specs.declared.State.{State}
use Rattle.state.specs.State.{limited_to}
use Rattle.walk.specs.Walk.{AtRoot, Carried}
use Rattle.walk.proofs.StateLaws.{carried_same}
use Rattle.probe.specs.declared.Visit.{Visit}
use Rattle.descent.specs.declared.Descent.{Descent}
use Rattle.descent.specs.declared.Ending.TheVariants.{Spent}
use Rattle.descent.specs.Descent.{UnitDue, UnitDone, DescentDue, Descended}
use Rattle.descent.proofs.DescentLaws.{earliest_spent, descending_start}

module _ (file : File) (us w memo : List ℕ) (st : State) (d : DescentDue file us st w memo) (limit : Euro) (one : limit.0 ≡ st.limit.0 + 1) where
  -- what the root asks
  pub descent_root : RootDue file us limit.0
  descent_root = record { dual = d.walking.dual; small = omega (arith, d.small) }

  module _ (s : State) (is : s ≡ limited_to st limit) where
    -- the root says that nothing is there: the descent is given up
    pub descent_out : (r : Descent) → r ≡ record { state = s; ending = Spent } → Descended (problem file) w w st r
    descent_out r e = subst (Descended (problem file) w w st) (sym e) (record {
      carried = rw is (carried_same (problem file) w st.used);
      earliest = λ z. earliest_spent Spent z refl;
    })

    -- no unit is placed
    pub descent_begins : (v : Result Euro ℕ) (c : Euro) (rows ys : List ℕ) (at : Visit) → Rooted (problem file) us limit.0 v → v ≡ Ok c → rows ≡ replicate 52 0
        → RootValues us ys → AtRoot c.0 s at.visit → UnitDue file us rows ys at w memo
    unfolding UnitDue
    descent_begins v c rows ys at said e none fronts root =
        let stands : AllStand (problem file) us ys c.0 = subst (Rooted (problem file) us limit.0) e said ys fronts in
        let state_is : at.visit.state ≡ limited_to st limit = root.same ∙ is in
        record {
          walking = d.walking;
          opened = record {
            within = λ i h. true_false (sym h ∙ (ap (λ (n : ℕ). has n i) root.nobody ∙ zero_has i));
            long = root.long;
            stands = rw (root.nobody, root.bound_is) (stands.each (entry at.visit.node.starts));
            tallied = rw root.nobody (rows_none (problem file) (entry at.visit.node.starts) rows none);
            small = rw state_is (omega (arith, d.small));
            held = rw state_is d.held;
          };
          unit = rw root.none (omega arith);
          follows = record {
            order = record { each = λ i. rw (root.nobody, root.none) (zero_has i ∙ sym (le-ltb i 0 (omega arith))) };
            agrees = rw root.none (λ k m. absurd (omega arith));
            cost = st.limit.0;
            limit_is = ap (λ (x : State). x.limit.0) state_is ∙ one;
          };
          descending = rw (root.none, state_is) (descending_start (problem file) (entry st.best) st.limit.0 d.least d.plan);
        }

    -- it has ended
    pub descent_ends : (c : ℕ) (at : Visit) (w' : List ℕ) (r : Descent) → AtRoot c s at.visit → UnitDone (problem file) w w' at r → Descended (problem file) w w' st r
    unfolding UnitDone
    descent_ends c at w' r root done =
        let state_is : at.visit.state ≡ limited_to st limit = root.same ∙ is in
        record {
          carried = subst (λ (x : State). Carried (problem file) w x.used w' r.state.used) state_is done.lowered.carried;
          earliest = λ z. done.lowered.earliest z st.limit.0 (ap (λ (x : State). x.limit.0) state_is ∙ one);
        }
