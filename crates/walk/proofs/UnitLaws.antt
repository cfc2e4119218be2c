-- The starts of a unit in turn: what is known when the next is tried, when the budget is spent, when the walk jumps back, and when all have failed.
-- Assumes nothing.
use Prim.Native.Nat.{ℕ, suc, ◌+◌, ◌-◌, ◌*◌, ◌≤◌, ◌<◌}
use mathlib.Core.Path.{◌≡◌, refl, sym, ◌∙◌, ap, subst}
use mathlib.Core.Bool.{Bool, true, false, not, ◌&&◌, ◌||◌}
use mathlib.Core.List.{List}
use mathlib.Core.Logic.{◌⊎◌, inl, inr, ⊎_elim}
use native.Mathlib.Nat.{le_trans, suc-mul, mul-le-mul_right}
use native.Mathlib.Decide.{ℕ_discrete, dec_lt}
use native.Mathlib.Omega.{arith}
use lib.ListN.{length, set, length-set}
use lib.Dec.{ltb, eqb}
use borrow.Author.Tests.{ltb-true, lt-ltb, eq-eqb, ne_eqb}
use Rattle.sums.specs.NumSet.{has, without}
use Rattle.sums.specs.Table.{entry}
use Rattle.sums.proofs.LogicLaws.{true_false, and_of, and_left, and_right, or_left, or_right}
use Rattle.sums.proofs.NumSetLaws.{zero_has}
use Rattle.model.specs.Problem.{Problem}
use Rattle.model.specs.Domain.{permitted, start_count}
use Rattle.model.specs.Schedule.{Schedule, Sound, cost}
use Rattle.model.specs.Order.{Same, Lower}
use Rattle.overhaul.specs.Range.{StartRange}
use Rattle.overhaul.proofs.StartLaws.{range_in, range_at, start_count_lem}
use Rattle.blame.specs.Closed.{Agree, Closed, Settled}
use Rattle.blame.specs.Placed.{out_of}
use Rattle.blame.proofs.PlacedLaws.{out_agree, standing_agree}
use Rattle.dual.specs.declared.Node.{Node}
use Rattle.dual.proofs.BoundsLaws.{bounds_agree}
use Rattle.bound.specs.Rows.{Rows}
use Rattle.bound.specs.Tests.{Stands}
use Rattle.state.specs.declared.State.{State}
use Rattle.state.specs.declared.Step.{Step}
use Rattle.state.specs.declared.Walked.TheVariants.{Dead, Spent}
use Rattle.state.specs.State.{dead_at}
use Rattle.walk.specs.Walk.{start_at, Later, UpTo, BeforeStart, Open, Untried, DeadEnd, Halted, WalkEnds, Shares, Done, try_room, place_room}
use Rattle.walk.proofs.PlaceLaws.{put_here, put_other, put_below, room_starts, passed_start}
use Rattle.walk.proofs.StateLaws.{later_same, later_next, held_later}

-- every sound schedule with the starts of xs for the units of b, and with a start of unit j below v, costs at least the limit
pub record Tried (p : Problem) (xs : List ℕ) (j v b limit : ℕ) : Type 0 where
  pub costs : (s : Schedule) → Sound p s → Agree p (has b) (entry xs) s.start → s.start j < v → limit ≤ cost p s

-- the starts of unit j from the first on and below v have failed, by the starts of the units of `blame`
pub record Trying (p : Problem) (w₀ w xs : List ℕ) (j : ℕ) (st₀ st : State) (blame first v : ℕ) : Type 0 where
  pub later : Later p w₀ st₀ w st
  pub budget : st.budget ≡ st₀.budget
  pub tried : Tried p xs j v blame st.limit.0
  pub under : (i : ℕ) → has blame i ≡ true → i < j
  pub counted : st.tries ≤ st₀.tries + (v - first) * try_room p j
  pub from : first ≤ v
  pub reach : v - first ≤ start_count p j
  pub past : st.found ≡ true → BeforeStart st.best xs j v

-- the units to blame, with those of one more start but the unit itself
pub shared_of : (blame b j rest both : ℕ) → ((k : ℕ) → has rest k ≡ without (has b) j k) → ((k : ℕ) → has both k ≡ (has blame k || has rest k))
    → Shares blame b j both
shared_of blame b j rest both less union = record { sets = λ k. union k ∙ ap (λ (x : Bool). has blame k || x) (less k) }

-- ---- the best, and the place of the next start

module _ (best xs : List ℕ) (j v : ℕ) (long : j < length xs) where
  -- before the place of the next start
  before_place : BeforeStart best xs j v → Lower ltb (j + 1) (entry best) (entry (set xs j v))
  before_place (inl l) = let h = l.below in record {
    at = l.at;
    below = omega arith;
    same = λ k d. l.same k d ∙ sym (put_below xs j v k (omega arith));
    less = subst (λ (n : ℕ). ltb (entry best l.at) n ≡ true) (sym (put_below xs j v l.at h)) l.less;
  }
  before_place (inr (same, less)) = record {
    at = j;
    below = omega arith;
    same = λ k d. same k d ∙ sym (put_below xs j v k d);
    less = subst (λ (n : ℕ). ltb (entry best j) n ≡ true) (sym (put_here xs j v long)) (lt-ltb (entry best j) v less);
  }

  -- what is lower at or before unit j
  lower_place : (f : ℕ → ℕ) → Lower ltb (j + 1) f (entry (set xs j v)) → Lower ltb j f (entry xs) ⊎ (Same j f (entry xs) × (f j < v))
  lower_place f l = by (ℕ_discrete l.at j)
    where
      by : Dec (l.at ≡ j) → Lower ltb j f (entry xs) ⊎ (Same j f (entry xs) × (f j < v))
      by (yes e) = inr (
        (λ k d. l.same k (omega arith) ∙ put_below xs j v k d),
        ltb-true (f j) v (subst (λ (n : ℕ). ltb (f j) n ≡ true) (put_here xs j v long) (subst (λ (k : ℕ). ltb (f k) (entry
            (set xs j v) k) ≡ true) e l.less)),
      )
      by (no ne) =
          let h = l.below in
          let below : l.at < j = omega arith in
          inl (record {
            at = l.at;
            below = below;
            same = λ k d. l.same k d ∙ put_below xs j v k (omega arith);
            less = subst (λ (n : ℕ). ltb (f l.at) n ≡ true) (put_below xs j v l.at below) l.less;
          })

  -- a best at or before this start is before the next
  past_next : UpTo best (set xs j v) (j + 1) → BeforeStart best xs j (v + 1)
  past_next (inl l) = ⊎_elim (λ a. inl a) (λ b. inr (b.0, omega (arith, b.1))) (lower_place (entry best) l)
  past_next (inr same) = inr (
    (λ k d. same k (omega arith) ∙ put_below xs j v k d),
    (let e = same j (omega arith) in let h = put_here xs j v long in omega arith),
  )

-- a best before a start of unit j is before the units below it, or begins with them
past_up : (best xs : List ℕ) (j v : ℕ) → BeforeStart best xs j v → UpTo best xs j
past_up best xs j v (inl l) = inl l
past_up best xs j v (inr b) = inr b.0

-- ---- the next start

-- no start was tried
pub trying_none : (p : Problem) (w us rows ys : List ℕ) (node : Node) (st : State) (first last : ℕ) → StartRange p node.unit first last
    → node.unit < p.units → Open p w us rows ys node st
    → Trying p w w node.starts node.unit st st 0 first first
trying_none p w us rows ys node st first last range inside o = record {
  later = later_same p w st;
  budget = refl;
  tried = record { costs = λ s sound agree less. absurd (early s sound less) };
  under = λ i e. true_false (sym e ∙ zero_has i);
  counted = omega arith;
  from = omega arith;
  reach = omega arith;
  past = λ e. inl (o.past e);
}
  where
    early : (s : Schedule) → Sound p s → s.start node.unit < first → ⊥
    early s sound less =
        omega (arith, (range_at p node.unit first last (s.start node.unit) range (sound.schedule.permits node.unit inside)).0)

module _ (p : Problem) (w₀ w us rows ys : List ℕ) (node : Node) (st₀ st : State) (blame first last v : ℕ)
    (range : StartRange p node.unit first last) (ends : last ≤ p.weeks) (inside : node.unit < p.units) (o : Open p w₀ us rows ys node st₀)
    (t : Trying p w₀ w node.starts node.unit st₀ st blame first v)
    (here : v ≤ last) where
  long : node.unit < length node.starts
  long = omega (arith, inside, o.long)

  -- unit node.unit has a permitted start
  pub some_start : 0 < start_count p node.unit
  some_start = omega (arith, start_count_lem p node.unit first last range ends, t.from)

  permits_here : permitted p node.unit v ≡ true
  permits_here = range_in p node.unit first last v range t.from here

  -- all schedules before this start
  settled_here : Settled p (entry (set node.starts node.unit v)) (node.unit + 1) st.limit.0
  settled_here = record { costs = λ s sound l. ⊎_elim (before s sound) (within s sound) (lower_place node.starts node.starts node.unit v long s.start l) }
    where
      before : (s : Schedule) → Sound p s → Lower ltb node.unit s.start (entry node.starts) → st.limit.0 ≤ cost p s
      before s sound l = le_trans t.later.falls (o.settled.costs s sound l)

      within : (s : Schedule) → Sound p s → Same node.unit s.start (entry node.starts) × (s.start node.unit < v) → st.limit.0 ≤ cost p s
      within s sound m = t.tried.costs s sound (λ i h e. m.0 i (t.under i e)) m.1

  -- the units placed have their starts still
  same : (i : ℕ) → has node.placed i ≡ true → entry node.starts i ≡ entry (set node.starts node.unit v) i
  same i e = sym (put_below node.starts node.unit v i (ltb-true i node.unit (sym (o.order.each i) ∙ e)))

  stands_here : Stands p us (has node.placed) (entry (set node.starts node.unit v)) ys node.bound.0
  stands_here = record {
    standing = standing_agree p (has node.placed) (entry node.starts) (entry (set node.starts node.unit v)) same o.stands.standing;
    bounds = bounds_agree p us (has node.placed) (entry node.starts) (entry (set node.starts node.unit v)) ys node.bound.0 same
        o.stands.bounds;
  }

  tallied_here : Rows p (out_of p (has node.placed) (entry (set node.starts node.unit v))) rows
  tallied_here = record {
    long = o.tallied.long;
    tallies = o.tallied.tallies;
    sets = λ d l i.
        o.tallied.sets d l i ∙ out_agree p (has node.placed) (entry node.starts) (entry (set node.starts node.unit v)) same d i;
  }

  -- the next start is tried
  pub untried : Untried p w us rows ys (start_at node v) st
  untried = record {
    unit = inside;
    long = omega (arith, o.long, length-set node.starts node.unit v);
    permits = ap (permitted p node.unit) (put_here node.starts node.unit v long) ∙ permits_here;
    order = record { each = o.order.each };
    stands = stands_here;
    tallied = tallied_here;
    settled = settled_here;
    past = λ e. before_place st.best node.starts node.unit v long (t.past e);
    counted =
        let e = passed_start p node.starts node.unit first last v range (omega arith) long in
        omega (arith, e, t.counted, o.counted);
    small = le_trans t.later.falls o.small;
    held = held_later p w₀ w st₀ st o.held t.later;
  }

  -- a start more is counted
  counted_next : (v + 1 - first) * try_room p node.unit ≡ (v - first) * try_room p node.unit + try_room p node.unit
  counted_next =
      let e : v + 1 - first ≡ suc (v - first) = omega (arith, t.from) in
      ap (λ (n : ℕ). n * try_room p node.unit) e ∙ suc-mul (v - first) (try_room p node.unit)

  reach_next : v + 1 - first ≤ start_count p node.unit
  reach_next = omega (arith, start_count_lem p node.unit first last range ends)

  -- so far it stays within the places below the unit's starts
  within_room : (n : ℕ) → n ≤ st.tries + try_room p node.unit → n ≤ st₀.tries + place_room p node.unit
  within_room n h =
      let m : (v + 1 - first) * try_room p node.unit ≤ start_count p node.unit * try_room p node.unit = mul-le-mul_right (try_room p node.unit) reach_next in
      omega (arith, m, counted_next, t.counted, room_starts p node.unit inside)

  module _ (w' : List ℕ) (step : Step) (d : Done p w w' (set node.starts node.unit v) (node.unit + 1) (try_room p node.unit) st step) where
    later_here : Later p w₀ st₀ w' step.state
    later_here = later_next p w₀ w w' st₀ st step.state t.later d.later

    -- the budget is spent
    pub done_spent : (m : ℕ) → step.walked ≡ Spent m → Done p w₀ w' node.starts node.unit (place_room p node.unit) st₀ step
    done_spent m e =
        let h : Halted p st.budget step.state m = subst (WalkEnds p st.budget (set node.starts node.unit v) (node.unit + 1) step.state) e d.ends in
        record {
          later = later_here;
          budget = d.budget ∙ t.budget;
          counted = within_room step.state.tries d.counted;
          ends = subst (WalkEnds p st₀.budget node.starts node.unit step.state) (sym e)
              (subst (λ (n : ℕ). Halted p n step.state m) t.budget h);
        }

    module _ (b : ℕ) (e : step.walked ≡ Dead b) where
      over : DeadEnd p (set node.starts node.unit v) (node.unit + 1) step.state b
      over = subst (WalkEnds p st.budget (set node.starts node.unit v) (node.unit + 1) step.state) e d.ends

      -- unit node.unit has no share in the blame: the walk jumps back
      pub done_jump : has b node.unit ≡ false → Done p w₀ w' node.starts node.unit (place_room p node.unit) st₀ step
      done_jump free = record {
        later = later_here;
        budget = d.budget ∙ t.budget;
        counted = within_room step.state.tries d.counted;
        ends = subst (WalkEnds p st₀.budget node.starts node.unit step.state) (sym e) (record {
          closed = record {
            costs = λ s sound agree. over.closed.costs s sound (λ i h f. agree i h f ∙ sym (put_other node.starts node.unit v i (other i f)));
          };
          within = λ i f. below i f (over.within i f);
          past = λ f. past_up step.state.best node.starts node.unit (v + 1) (past_next step.state.best node.starts node.unit v long (over.past f));
        });
      }
        where
          other : (i : ℕ) → has b i ≡ true → i ≡ node.unit → ⊥
          other i f q = true_false (sym f ∙ (ap (has b) q ∙ free))

          below : (i : ℕ) → has b i ≡ true → i < node.unit + 1 → i < node.unit
          below i f l = let ne = other i f in omega arith

      -- unit node.unit shares the blame: the others are kept
      pub trying_more : (both : ℕ) → ((k : ℕ) → has both k ≡ (has blame k || (has b k && not (eqb k node.unit))))
          → Trying p w₀ w' node.starts node.unit st₀ step.state both first (v + 1)
      trying_more both union = record {
        later = later_here;
        budget = d.budget ∙ t.budget;
        tried = record { costs = λ s sound agree less. by s sound agree less (dec_lt (s.start node.unit) v) };
        under = λ i f. under i (union i) f;
        counted = omega (arith, d.counted, t.counted, counted_next);
        from = omega (arith, t.from);
        reach = reach_next;
        past = λ f. past_next step.state.best node.starts node.unit v long (over.past f);
      }
        where
          left : (i : ℕ) → has blame i ≡ true → has both i ≡ true
          left i f = union i ∙ or_left (has blame i) (has b i && not (eqb i node.unit)) f

          right : (i : ℕ) → has b i ≡ true → (i ≡ node.unit → ⊥) → has both i ≡ true
          right i f ne =
              union i ∙ or_right (has blame i) (has b i && not (eqb i node.unit)) (and_of (has b i) (not (eqb i node.unit)) f (ap not (ne_eqb i node.unit ne)))

          under : (i : ℕ) → has both i ≡ (has blame i || (has b i && not (eqb i node.unit))) → has both i ≡ true → i < node.unit
          under i q f = go (has blame i) refl (sym q ∙ f)
            where
              go : (c : Bool) → has blame i ≡ c → (c || (has b i && not (eqb i node.unit))) ≡ true → i < node.unit
              go true z g = t.under i z
              go false z g =
                  let m = over.within i (and_left (has b i) (not (eqb i node.unit)) g) in
                  let n = and_right (has b i) (not (eqb i node.unit)) g in
                  let ne : i ≡ node.unit → ⊥ = λ y. true_false (sym n ∙ ap not (eq-eqb i node.unit y)) in
                  omega arith

          by : (s : Schedule) → Sound p s → Agree p (has both) (entry node.starts) s.start → s.start node.unit < v + 1 → Dec (s.start node.unit < v)
              → step.state.limit.0 ≤ cost p s
          by s sound agree less (yes l) = le_trans d.later.falls (t.tried.costs s sound (λ i h f. agree i h (left i f)) l)
          by s sound agree less (no l) = over.closed.costs s sound (λ i h f. at i h f (ℕ_discrete i node.unit))
            where
              at : (i : ℕ) → i < p.units → has b i ≡ true → Dec (i ≡ node.unit) → s.start i ≡ entry (set node.starts node.unit v) i
              at i h f (yes q) =
                  let y : s.start node.unit ≡ v = omega arith in
                  ap s.start q ∙ (y ∙ (sym (put_here node.starts node.unit v long) ∙ ap (entry (set node.starts node.unit v)) (sym q)))
              at i h f (no ne) = agree i h (right i f ne) ∙ sym (put_other node.starts node.unit v i ne)

-- ---- all starts have failed

module _ (p : Problem) (w₀ w us rows ys : List ℕ) (node : Node) (st₀ st : State) (blame first last v : ℕ)
    (range : StartRange p node.unit first last) (inside : node.unit < p.units) (o : Open p w₀ us rows ys node st₀) (t : Trying p w₀ w node.starts node.unit st₀ st blame first v)
    (ended : last < v) where
  closed_all : Closed p (has blame) (entry node.starts) st.limit.0
  closed_all = record { costs = λ s sound agree. t.tried.costs s sound agree (late s sound) }
    where
      late : (s : Schedule) → Sound p s → s.start node.unit < v
      late s sound =
          omega (arith, (range_at p node.unit first last (s.start node.unit) range (sound.schedule.permits node.unit inside)).1)

  -- the dead end, before it is noted and after
  pub done_all : (w' : List ℕ) (r : State)
      → (Closed p (has blame) (entry node.starts) st.limit.0 → Later p w st w' r) → r.limit ≡ st.limit → r.tries ≡ st.tries
      → r.found ≡ st.found → r.best ≡ st.best → r.budget ≡ st.budget
      → Done p w₀ w' node.starts node.unit (place_room p node.unit) st₀ (dead_at r blame)
  done_all w' r later el et ef eb ebudget = record {
    later = later_next p w₀ w w' st₀ st r t.later (later closed_all);
    budget = ebudget ∙ t.budget;
    counted =
        let m : (v - first) * try_room p node.unit ≤ start_count p node.unit * try_room p node.unit = mul-le-mul_right (try_room p node.unit) t.reach in
        omega (arith, m, t.counted, et, room_starts p node.unit inside);
    ends = record {
      closed = rw el closed_all;
      within = t.under;
      past = λ f. rw eb (past_up st.best node.starts node.unit v (t.past (sym ef ∙ f)));
    };
  }
