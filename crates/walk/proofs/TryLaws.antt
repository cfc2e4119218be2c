-- A start tried: the budget is spent, it fails, it holds and the next unit is placed, or it was the last unit's and a better schedule is found.
-- Assumes nothing.
use Prim.Native.Nat.{ℕ, suc, ◌+◌, ◌-◌, ◌≤◌, ◌<◌}
use mathlib.Core.Path.{◌≡◌, refl, sym, ◌∙◌, ap, subst, fun_ext}
use mathlib.Core.Bool.{true}
use mathlib.Core.List.{List}
use mathlib.Core.Logic.{inl, inr}
use native.Mathlib.Omega.{arith}
use lib.Dec.{ltb}
use borrow.Author.Count.{below_more}
use borrow.Author.Tests.{lt-ltb, ltb-true}
use Rattle.sums.specs.NumSet.{NumSet, has}
use Rattle.sums.specs.Table.{entry}
use Rattle.model.specs.Problem.{Problem, Fair}
use Rattle.model.specs.Domain.{permitted}
use Rattle.model.specs.Schedule.{out_in, cost}
use Rattle.instance.specs.declared.Euro.{Euro}
use Rattle.blame.specs.Closed.{Settled}
use Rattle.blame.specs.Placed.{first_units, out_of, paid}
use Rattle.blame.proofs.PlacedLaws.{first_next, leaf_sound, leaf_cost, leaf_first}
use Rattle.dual.specs.declared.Node.{Node}
use Rattle.dual.specs.Blame.{placed_after, IsNext}
use Rattle.bound.specs.Rows.{Rows, RowsWith}
use Rattle.bound.specs.Tests.{Blames, Stands}
use Rattle.bound.proofs.RowLaws.{rows_joined}
use Rattle.state.specs.declared.State.{State}
use Rattle.state.specs.declared.Step.{Step}
use Rattle.state.specs.State.{tried_once, stopped_at, dead_at}
use Rattle.walk.specs.Walk.{IsIncumbent, InOrder, Open, Untried, Leaf, Done, try_room, place_room}
use Rattle.walk.proofs.PlaceLaws.{tree_some, room_step}
use Rattle.walk.proofs.StateLaws.{later_same, later_next, later_tried, later_stopped, later_improved}

-- with its unit the units placed are those below the next
pub joined_order : (node : Node) → InOrder node → (i : ℕ) → placed_after node i ≡ ltb i (node.unit + 1)
unfolding first_units
joined_order node o i = rw (o.each i) (ap (λ (a : NumSet). a i) (first_next node.unit))

pub order_next : (node : Node) → InOrder node → (i : ℕ) → placed_after node i ≡ true → i < node.unit + 1
order_next node o i e = ltb-true i (node.unit + 1) (sym (joined_order node o i) ∙ e)

module _ (p : Problem) (w us rows ys : List ℕ) (node : Node) (st : State) (d : Untried p w us rows ys node st) where
  -- the budget is spent: this place is the mark
  pub done_stopped : (k : ℕ) → k ≡ node.unit + 1 → st.budget ≤ st.tries → Done p w w node.starts (node.unit + 1) (try_room p node.unit) st (stopped_at st node.starts k)
  done_stopped k e h = rw e (record {
    later = later_stopped p w node.starts (node.unit + 1) st;
    budget = refl;
    counted = omega arith;
    ends = record {
      some = omega arith;
      within = omega (arith, d.unit);
      permits = below_more (λ i. permitted p i (entry node.starts i) ≡ true) node.unit
          (λ i l. d.stands.standing.permits i (d.order.each i ∙ lt-ltb i node.unit l)) d.permits;
      late = omega (arith, d.counted);
      settled = d.settled;
      past = d.past;
    };
  })

  -- a try counts one of the places at and below its start
  tried_counted : st.tries + 1 ≤ st.tries + try_room p node.unit
  tried_counted = omega (arith, tree_some p (p.units - suc node.unit))

  -- the start fails
  pub done_fails : (b : ℕ) → Blames p (placed_after node) (entry node.starts) st.limit.0 b → Done p w w node.starts (node.unit + 1) (try_room p node.unit) st (dead_at (tried_once st) b)
  done_fails b f = record {
    later = later_tried p w st;
    budget = refl;
    counted = tried_counted;
    ends = record { closed = f.closed; within = λ i e. order_next node d.order i (f.within i e); past = λ e. inl (d.past e) };
  }

  -- it holds, and there is a next unit
  pub opened : (next zs : List ℕ) (more : Euro) (n : Node) → IsNext node more n → Stands p us (placed_after node) (entry node.starts) zs more.0
      → RowsWith p rows (entry node.starts) node.unit next → Open p w us next zs n (tried_once st)
  opened next zs more n is stands tallied = subst (λ (x : Node). Open p w us next zs x (tried_once st)) (sym is.is) (record {
    unit = omega (arith, d.unit);
    long = d.long;
    order = record { each = λ i. is.joins i ∙ joined_order node d.order i };
    stands = subst (λ (a : NumSet). Stands p us a (entry node.starts) zs more.0) (sym placed) stands;
    tallied = subst (λ (a : NumSet). Rows p (out_of p a (entry node.starts)) next) (sym placed)
        (rows_joined p rows (has node.placed) (entry node.starts) node.unit next d.tallied tallied);
    settled = d.settled;
    past = d.past;
    counted = omega (arith, d.counted);
    small = d.small;
    held = d.held;
  })
    where
      placed : has n.placed ≡ placed_after node
      placed = fun_ext is.joins

-- the next unit was placed
pub done_place : (p : Problem) (w w' xs : List ℕ) (j : ℕ) (st : State) (step : Step) → Done p w w' xs (j + 1) (place_room p (j + 1)) (tried_once st) step
    → Done p w w' xs (j + 1) (try_room p j) st step
done_place p w w' xs j st step d = record {
  later = later_next p w w w' st (tried_once st) step.state (later_tried p w st) d.later;
  budget = d.budget;
  counted = omega (arith, d.counted, room_step p j);
  ends = d.ends;
}

-- ---- every unit is placed

module _ (p : Problem) (w us rows ys : List ℕ) (node : Node) (st : State) (o : Open p w us rows ys node st) (fair : Fair p)
    (whole : node.unit ≡ p.units) where
  -- and all of them are
  all : (i : ℕ) → i < p.units → has node.placed i ≡ true
  all i h = o.order.each i ∙ lt-ltb i node.unit (omega (arith, whole))

  -- a schedule below the limit leads under every ceiling that the limit is under
  leads : (c : Euro) → c.0 ≡ paid p (out_in p (entry node.starts)) → c.0 < st.limit.0 → (ceiling : ℕ)
      → st.limit.0 ≤ ceiling + 1 → IsIncumbent p ceiling node.starts c.0
  leads c e less ceiling under =
      let settled = subst (λ (k : ℕ). Settled p (entry node.starts) k st.limit.0) whole o.settled in
      record {
        sound = leaf_sound p (entry node.starts) fair (has node.placed) all o.stands.standing;
        costs = leaf_cost p (entry node.starts) fair (has node.placed) all o.stands.standing ∙ sym e;
        allowed = omega arith;
        first = λ q sound earlier.
            subst (λ (n : ℕ). n < cost p q) (sym e)
            (leaf_first p (entry node.starts) fair (has node.placed) all o.stands.standing st.limit.0 settled (subst (λ (n : ℕ). n < st.limit.0) e less) q sound earlier);
      }

  below : (b : ℕ) → ((i : ℕ) → has b i ≡ true → first_units p.units i ≡ true) → (i : ℕ) → has b i ≡ true → i < node.unit
  unfolding first_units
  below b h i e = let g = ltb-true i p.units (h i e) in omega (arith, whole)

  -- it costs the limit or more, or it is the best so far
  pub done_leaf : (step : Step) → Leaf p node.starts st step → Done p w w node.starts node.unit (place_room p node.unit) st step
  done_leaf step (inl h) = subst (Done p w w node.starts node.unit (place_room p node.unit) st) (sym h.is) (record {
    later = later_same p w st;
    budget = refl;
    counted = omega arith;
    ends = record { closed = h.blames.closed; within = below h.b h.blames.within; past = λ e. inl (o.past e) };
  })
  done_leaf step (inr h) = subst (Done p w w node.starts node.unit (place_room p node.unit) st) (sym h.is) (record {
    later = later_improved p w node.starts h.c st h.less (leads h.c h.costs h.less);
    budget = refl;
    counted = omega arith;
    ends = record { closed = h.blames.closed; within = below h.b h.blames.within; past = λ e. inr (λ i h. refl) };
  })
