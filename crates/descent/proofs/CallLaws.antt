-- What the calls of the descent ask and give: the starts of a unit in turn, one of them tried, one that holds.
-- Assumes nothing.
use Prim.Native.Nat.{ℕ, ◌+◌, ◌*◌, ◌-◌, ◌≤◌, ◌<◌}
use mathlib.Core.Path.{◌≡◌, refl, sym, ◌∙◌, ap, subst, subst₂}
use mathlib.Core.Bool.{false}
use mathlib.Core.List.{List}
use native.Mathlib.Omega.{arith}
use lib.Dec.{ltb}
use lib.ListN.{length}
use borrow.Author.Tests.{le-ltb}
use Rattle.sums.specs.NumSet.{has}
use Rattle.sums.specs.Table.{entry}
use Rattle.model.specs.Problem.{Problem}
use Rattle.instance.specs.declared.file.File.{File}
use Rattle.instance.specs.File.{problem}
use Rattle.instance.specs.Filed.{Filed}
use Rattle.overhaul.specs.Range.{StartRange}
use Rattle.overhaul.proofs.StartLaws.{range_in}
use Rattle.blame.specs.Placed.{first_units}
use Rattle.blame.proofs.ClosedLaws.{closed_more}
use Rattle.tables.specs.Tables.{price_in}
use Rattle.relaxation.specs.Relaxed.{MemoTrue}
use Rattle.dual.specs.declared.Node.{Node}
use Rattle.dual.specs.Blame.{placed_after, IsNext}
use Rattle.std.proofs.Common.{Result, Ok, Err}
use Rattle.bound.specs.Rows.{RowsWith}
use Rattle.bound.specs.Tests.{Blames}
use Rattle.state.specs.declared.State.{State}
use Rattle.state.specs.declared.Step.{Step}
use Rattle.state.specs.State.{tried_once}
use Rattle.walk.specs.Walk.{Carried, Walking}
use Rattle.walk.proofs.StateLaws.{carried_same, carried_next, held_carried}
use Rattle.walk.proofs.PlaceLaws.{put_here, put_below}
use Rattle.walk.proofs.TryLaws.{joined_order, order_next}
use Rattle.probe.specs.declared.Visit.{Visit}
use Rattle.probe.specs.Probe.{Opened, PlaceDue, StartDue, Taken, Refuted, StartTaken, IsStart, start_at}
use Rattle.probe.proofs.OpenLaws.{startable_at}
use Rattle.probe.proofs.UnitLaws.{tried_none}
use Rattle.probe.proofs.TryLaws.{taken, taken_places}
use Rattle.descent.specs.declared.Descent.{Descent}
use Rattle.descent.specs.declared.Ending.TheVariants.{Earliest, NextStart, Spent}
use Rattle.descent.specs.Descent.{Descending, Lowering, Follows, UnitDue, TryNeeds, TryDue, HeldDue, IsAt, Passed, UnitDone, TryDone, HeldDone, Found}
use Rattle.descent.proofs.DescentLaws.{earliest_next, earliest_spent, next_spent, lowering_next}

-- ---- a start that holds

module _ (file : File) (us rows ys : List ℕ) (at : Visit) (w w' memo : List ℕ) (found : Descent)
    (h : Found file us rows ys at w w' memo found) where
  -- no plan has it, or the tries are spent
  pub held_passes : (found.ending ≡ Earliest → ⊥) → HeldDone (problem file) w w' at found
  unfolding Found HeldDone
  held_passes off = record {
    lowered = record { carried = h.carried; earliest = λ z. absurd (off z) };
    fails = h.fails;
  }

  module _ (plan : found.ending ≡ Earliest) where
    -- on to the next unit
    pub held_unit_due : (below : Visit) → IsAt at found.state below → UnitDue file us rows ys below w' memo
    unfolding Found UnitDue
    held_unit_due below is = h.unit plan below is

    -- whose descent ended
    pub held_lowered : (below : Visit) (w'' : List ℕ) (r : Descent) → IsAt at found.state below → UnitDone (problem file) w' w'' below r
        → HeldDone (problem file) w w'' at r
    unfolding Found UnitDone HeldDone
    held_lowered below w'' r is done = record {
      lowered = record {
        carried = carried_next (problem file) w w' w'' at.visit.state.used found.state.used r.state.used h.carried
            (subst (λ (s : State). Carried (problem file) w' s.used w'' r.state.used) is.state_is done.lowered.carried);
        earliest = λ z c e.
            done.lowered.earliest z c (ap (λ (s : State). s.limit.0) is.state_is ∙ (h.limit_is plan ∙ e));
      };
      fails = λ z. absurd (done.over z);
    }

-- the same visit: as many units are left
pub held_falls : (p : Problem) (at below : Visit) (st : State) (n : ℕ) → IsAt at st below → 3 * (p.units - at.visit.node.unit) + 1 ≡ n
    → 3 * (p.units - below.visit.node.unit) < n
held_falls p at below st n is e = let q = ap (λ (x : Node). p.units - x.unit) is.node_is in omega (arith, q)

-- ---- a start tried

module _ (file : File) (us rows ys : List ℕ) (at : Visit) (w memo : List ℕ) (d : TryDue file us rows ys at w memo) where
  -- what judging it asks
  pub try_starts : StartDue file us rows ys at w memo
  unfolding TryDue StartDue
  try_starts = record { walking = d.walking; startable = d.startable }

  pub try_recalls : MemoTrue (problem file) (price_in us) memo
  unfolding TryDue
  try_recalls = d.walking.recalls

  -- the weeks' values have 52 places
  pub try_long : 52 ≡ length ys
  unfolding TryDue
  try_long = sym d.startable.opened.stands.bounds.values.long

  -- the tries are spent
  pub try_given_up : (r : Descent) → r ≡ record { state = at.visit.state; ending = Spent } → TryDone (problem file) w w at r
  unfolding TryDone
  try_given_up r is = subst (TryDone (problem file) w w at) (sym is) (record {
    lowered = record { carried = carried_same (problem file) w at.visit.state.used; earliest = λ z. earliest_spent Spent z refl };
    fails = λ z. next_spent Spent z refl;
  })

  module _ (zs memo₁ : List ℕ) (r : Result Visit Step) (j : StartTaken file us rows ys at w memo zs memo₁ r) where
    -- it fails
    pub try_fails : (step : Step) (e : Descent) → r ≡ Err step → e ≡ record { state = step.state; ending = NextStart } → TryDone (problem file) w w at e
    unfolding TryDue StartTaken TryDone
    try_fails step e t is =
        let d' : Refuted file us rows ys at w memo zs memo₁ step = subst (StartTaken file us rows ys at w memo zs memo₁) t j in
        let b : ℕ = d'.b in
        let h : Blames (problem file) (placed_after at.visit.node) (entry at.visit.node.starts) at.visit.state.limit.0 b = d'.judging.said in
        let g : e.state ≡ tried_once at.visit.state = ap (λ (x : Descent). x.state) is ∙ ap (λ (x : Step). x.state) d'.step_is in
        let n : e.ending ≡ NextStart = ap (λ (x : Descent). x.ending) is in
        record {
          lowered = record { carried = rw g (carried_same (problem file) w at.visit.state.used); earliest = λ z. earliest_next e.ending z n };
          fails = λ _. record {
            best_is = ap (λ (x : State). entry x.best) g;
            limit_is = ap (λ (x : State). x.limit.0) g;
            lowering = λ c m.
                let z : c ≡ d.follows.cost = omega (arith, m, d.follows.limit_is) in
                rw g (lowering_next (problem file) (entry at.visit.state.best) c at.visit.node.unit at.visit.node.starts b d.follows.agrees
                (λ k q. order_next at.visit.node d.follows.order k (h.within k q))
                (closed_more (problem file) (has b) (has b) (entry at.visit.node.starts) at.visit.state.limit.0 (c + 1) (λ i y q. q) (omega (arith, m)) h.closed)
                (rw z d.lowering));
          };
        }

    module _ (next : Visit) (e : r ≡ Ok next) where
      it : Taken file us rows ys at w memo zs memo₁ next
      it = taken file us rows ys at w memo zs memo₁ r j next e

      next_is : IsNext at.visit.node it.bound next.visit.node
      next_is = it.goes.node_is

      tried_is : next.visit.state ≡ tried_once at.visit.state
      tried_is = it.goes.state_is

      -- it holds
      pub try_held : (out : List ℕ) → RowsWith (problem file) rows (entry at.visit.node.starts) at.visit.node.unit out → HeldDue file us out zs next w memo₁
      unfolding TryDue HeldDue PlaceDue
      try_held out tallied =
          let places : PlaceDue file us out zs next w memo₁ = taken_places file us rows ys at w memo zs memo₁ r j next e out tallied in
          record {
            walking = places.walking;
            opened = places.opened;
            j = at.visit.node.unit;
            next = ap (λ (n : Node). n.unit) next_is.is;
            inside = d.startable.unit;
            order = record { each = λ i. next_is.joins i ∙ (joined_order at.visit.node d.follows.order i ∙ ap (λ (n : Node). ltb i n.unit) (sym next_is.is)) };
            agrees = rw (next_is.is, tried_is) d.follows.agrees;
            cost = d.follows.cost;
            limit_is = ap (λ (s : State). s.limit.0) tried_is ∙ d.follows.limit_is;
            lowering = rw (next_is.is, tried_is) d.lowering;
          }

      -- with fewer units left
      pub try_falls : (n : ℕ) → 3 * ((problem file).units - at.visit.node.unit) - 1 ≡ n → 3 * ((problem file).units - next.visit.node.unit) + 1 < n
      unfolding TryDue
      try_falls n m = let q = ap (λ (x : Node). x.unit) next_is.is in omega (arith, d.startable.unit, q)

      -- and came back
      pub try_held_done : (w₂ : List ℕ) (x : Descent) → HeldDone (problem file) w w₂ next x → TryDone (problem file) w w₂ at x
      unfolding HeldDone TryDone
      try_held_done w₂ x done =
          let node_is = next_is.is in
          let one : at.visit.node.unit + 1 - 1 ≡ at.visit.node.unit = omega arith in
          let y : Passed (problem file) w w₂ (at.visit.node.unit + 1 - 1) (entry at.visit.node.starts (at.visit.node.unit + 1 - 1)) (tried_once at.visit.state) x
          = subst₂ (λ (n : Node) (s : State). Passed (problem file) w w₂ (n.unit - 1) (entry n.starts (n.unit - 1)) s x) node_is tried_is done in
          let z : Passed (problem file) w w₂ at.visit.node.unit (entry at.visit.node.starts at.visit.node.unit) (tried_once at.visit.state) x
          = subst (λ (i : ℕ). Passed (problem file) w w₂ i (entry at.visit.node.starts i) (tried_once at.visit.state) x) one y in
          record {
            lowered = record { carried = z.lowered.carried; earliest = z.lowered.earliest };
            fails = λ q. let k = z.fails q in record { best_is = k.best_is; limit_is = k.limit_is; lowering = k.lowering };
          }

-- ---- the starts of a unit

-- a unit's starts from the first to before the end are tried, and those below v have failed
pub record Starting (file : File) (us rows ys : List ℕ) (at : Visit) (w : List ℕ) (end : ℕ) (w₁ : List ℕ) (s : State) (v : ℕ) (memo : List ℕ) : Type 0 where
  pub walking : Walking file us memo
  pub opened : Opened (problem file) w us rows ys at.visit.node at.visit.state
  pub follows : Follows (problem file) at.visit.node at.visit.state
  pub inside : at.visit.node.unit < (problem file).units
  pub first : ℕ
  pub last : ℕ
  pub to_last : end ≡ last + 1
  pub range : StartRange (problem file) at.visit.node.unit first last
  pub from : first ≤ v
  pub ends : last ≤ (problem file).weeks
  pub carried : Carried (problem file) w at.visit.state.used w₁ s.used
  pub best_is : entry s.best ≡ entry at.visit.state.best
  pub limit_is : s.limit.0 ≡ at.visit.state.limit.0
  pub lowering : Lowering (problem file) (entry s.best) follows.cost at.visit.node.unit v

unfoldable pub Starts : (file : File) → (us rows ys : List ℕ) → Visit → (w : List ℕ) → (end : ℕ) → (w₁ : List ℕ) → State → (v : ℕ)
    → (memo : List ℕ) → Type 0
Starts file us rows ys at w end w₁ s v memo = Starting file us rows ys at w end w₁ s v memo

module _ (file : File) (us rows ys : List ℕ) (at : Visit) (w memo : List ℕ) (d : UnitDue file us rows ys at w memo) where
  pub unit_filed : Filed file.words.now file.layout
  unfolding UnitDue
  unit_filed = file.filed

  pub unit_recalls : MemoTrue (problem file) (price_in us) memo
  unfolding UnitDue
  unit_recalls = d.walking.recalls

  -- no unit is left
  pub unit_whole : (s : State) (r : Descent) → file.layout.units ≤ at.visit.node.unit → s ≡ at.visit.state → r ≡ record { state = s; ending = Earliest }
      → UnitDone (problem file) w w at r
  unfolding UnitDue UnitDone
  unit_whole s r last es is =
      let g : r.state ≡ at.visit.state = ap (λ (x : Descent). x.state) is ∙ es in
      let all : at.visit.node.unit ≡ (problem file).units = omega (arith, d.unit, file.filed.units_are) in
      record {
        lowered = record {
          carried = rw g (carried_same (problem file) w at.visit.state.used);
          earliest = λ _ c m.
              let z : c ≡ d.follows.cost = omega (arith, m, d.follows.limit_is) in
              rw (g, z) (subst (Descending (problem file) (entry at.visit.state.best) d.follows.cost) all d.descending);
        };
        over = λ z. earliest_next r.ending (ap (λ (x : Descent). x.ending) is) z;
      }

  -- the number after its last start fits a word
  pub unit_fits : (last : ℕ) → last ≤ file.layout.weeks → last + 1 < 18446744073709551616
  unit_fits last ends = omega (arith, file.filed.weeks_most)

  -- no start was tried
  pub unit_starts : (first last : ℕ) (s : State) → at.visit.node.unit < file.layout.units → StartRange (problem file) at.visit.node.unit first last → last ≤ file.layout.weeks
      → s ≡ at.visit.state → Starts file us rows ys at w (last + 1) w s first memo
  unfolding UnitDue Starts
  unit_starts first last s inside range ends e = rw e (record {
    walking = d.walking;
    opened = d.opened;
    follows = d.follows;
    inside = omega (arith, file.filed.units_are);
    first = first;
    last = last;
    to_last = refl;
    range = range;
    from = omega arith;
    ends = omega (arith, file.filed.weeks_are);
    carried = carried_same (problem file) w at.visit.state.used;
    best_is = refl;
    limit_is = refl;
    lowering = record {
      descending = d.descending;
      tried = tried_none (problem file) (first_units at.visit.node.unit) (entry at.visit.state.best) at.visit.node.unit first last (d.follows.cost + 1) range
          (omega (arith, file.filed.units_are));
    };
  })

module _ (file : File) (us rows ys : List ℕ) (at : Visit) (w : List ℕ) (end : ℕ) (w₁ : List ℕ) (s : State) (v : ℕ) (memo₁ : List ℕ)
    (h : Starts file us rows ys at w end w₁ s v memo₁) where
  -- a unit is one of sixteen
  pub starts_few : at.visit.node.unit < 16
  unfolding Starts
  starts_few = omega (arith, h.inside, file.filed.units_are, file.filed.units_most)

  -- a start is one of 52
  pub starts_within : v < end → v ≤ 52
  unfolding Starts
  starts_within here = omega (arith, h.to_last, h.ends, file.filed.weeks_are, file.filed.weeks_most)

  pub starts_recalls : MemoTrue (problem file) (price_in us) memo₁
  unfolding Starts
  starts_recalls = h.walking.recalls

  -- none of them was the plan's
  pub starts_out : (r : Descent) → r ≡ record { state = s; ending = Spent } → UnitDone (problem file) w w₁ at r
  unfolding Starts UnitDone
  starts_out r is = subst (UnitDone (problem file) w w₁ at) (sym is) (record {
    lowered = record { carried = h.carried; earliest = λ z. earliest_spent Spent z refl };
    over = λ z. next_spent Spent z refl;
  })

  module _ (here : v < end) (below : Visit) (start : IsStart at at.visit.node.unit v s below) where
    long : at.visit.node.unit < length at.visit.node.starts
    unfolding Starts
    long = omega (arith, starts_few, h.opened.long)

    free : has at.visit.node.placed at.visit.node.unit ≡ false
    unfolding Starts
    free = h.follows.order.each at.visit.node.unit ∙ le-ltb at.visit.node.unit at.visit.node.unit (omega arith)

    needs : TryNeeds file us rows ys (record { visit = record { node = start_at at.visit.node at.visit.node.unit v; state = s }; order = below.order; first = below.first }) w₁ memo₁
    unfolding Starts
    needs = record {
      walking = h.walking;
      startable = startable_at (problem file) w us rows ys at.visit.node at.visit.state h.opened at.visit.node.unit v free w₁ s h.inside starts_few
          (range_in (problem file) at.visit.node.unit h.first h.last v h.range h.from (omega (arith, h.to_last)))
          (omega (arith, h.limit_is, h.opened.small))
          (held_carried (problem file) w w₁ at.visit.state.used s.used h.opened.held h.carried);
      follows = record {
        order = record { each = h.follows.order.each };
        agrees = λ k m. put_below at.visit.node.starts at.visit.node.unit v k m ∙ (h.follows.agrees k m ∙ ap (λ (g : ℕ → ℕ). g k) (sym h.best_is));
        cost = h.follows.cost;
        limit_is = h.limit_is ∙ h.follows.limit_is;
      };
      lowering = rw (put_here at.visit.node.starts at.visit.node.unit v long) h.lowering;
    }

    -- the next start is tried
    pub starts_try : TryDue file us rows ys below w₁ memo₁
    unfolding TryDue
    starts_try =
        subst₂ (λ (n : Node) (x : State). TryNeeds file us rows ys (record { visit = record { node = n; state = x }; order = below.order; first = below.first }) w₁ memo₁)
        (sym start.node_is) (sym start.state_is) needs

    -- with the same unit
    pub starts_fall : (n : ℕ) → 3 * ((problem file).units - at.visit.node.unit) ≡ n → 3 * ((problem file).units - below.visit.node.unit) - 1 < n
    unfolding Starts
    starts_fall n e = let q = ap (λ (x : Node). x.unit) start.node_is in omega (arith, h.inside, q)

    module _ (w₂ : List ℕ) (r : Descent) (done : TryDone (problem file) w₁ w₂ below r) where
      own : Passed (problem file) w₁ w₂ at.visit.node.unit v s r
      unfolding TryDone
      own =
          subst (λ (x : ℕ). Passed (problem file) w₁ w₂ at.visit.node.unit x s r) (put_here at.visit.node.starts at.visit.node.unit v long)
          (subst₂ (λ (n : Node) (x : State). Passed (problem file) w₁ w₂ n.unit (entry n.starts n.unit) x r) start.node_is start.state_is done)

      carries : Carried (problem file) w at.visit.state.used w₂ r.state.used
      unfolding Starts
      carries = carried_next (problem file) w w₁ w₂ at.visit.state.used s.used r.state.used h.carried own.lowered.carried

      -- the descent has ended
      pub starts_left : (r.ending ≡ NextStart → ⊥) → UnitDone (problem file) w w₂ at r
      unfolding Starts UnitDone
      starts_left off = record {
        lowered = record { carried = carries; earliest = λ z c e. own.lowered.earliest z c (h.limit_is ∙ e) };
        over = off;
      }

      -- the next start
      pub starts_next : (memo₂ : List ℕ) → r.ending ≡ NextStart → MemoTrue (problem file) (price_in us) memo₂
          → Starts file us rows ys at w end w₂ r.state (v + 1) memo₂
      unfolding Starts
      starts_next memo₂ on recalls =
          let k = own.fails on in
          record {
            walking = record { dual = h.walking.dual; recalls = recalls };
            opened = h.opened;
            follows = h.follows;
            inside = h.inside;
            first = h.first;
            last = h.last;
            to_last = h.to_last;
            range = h.range;
            from = omega (arith, h.from);
            ends = h.ends;
            carried = carries;
            best_is = k.best_is ∙ h.best_is;
            limit_is = k.limit_is ∙ h.limit_is;
            lowering = k.lowering h.follows.cost (h.limit_is ∙ h.follows.limit_is);
          }

-- a table keeps its length
pub try_table : (p : Problem) (w w' : List ℕ) (at : Visit) (r : Descent) → TryDone p w w' at r → length w' ≡ length w
unfolding TryDone
try_table p w w' at r d = d.lowered.carried.long
