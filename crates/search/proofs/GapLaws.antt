-- Probes at gaps: how one ends, what it leaves, and where they come.
-- Assumes nothing.
use Prim.Native.Nat.{ℕ, ◌+◌, ◌<◌}
use mathlib.Core.Path.{◌≡◌, refl, sym, ap, subst}
use mathlib.Core.Bool.{Bool}
use mathlib.Core.List.{List}
use native.Mathlib.Omega.{arith}
use Rattle.model.specs.Nogood.{MOST_LIMIT}
use Rattle.instance.specs.declared.file.File.{File}
use Rattle.instance.specs.File.{problem}
use Rattle.instance.specs.declared.Euro.{Euro}
use Rattle.tables.specs.Tables.{price_in}
use Rattle.relaxation.specs.Relaxed.{MemoTrue}
use Rattle.state.specs.declared.State.{State}
use Rattle.state.specs.declared.Step.{Step}
use Rattle.state.specs.State.{renewed_at}
use Rattle.walk.specs.Walk.{Carried}
use Rattle.walk.proofs.StateLaws.{carried_same, carried_next, held_carried}
use Rattle.probe.specs.Probe.{ProbeDue, RootDone}
use Rattle.search.specs.declared.gaps.Outcome.{Outcome}
use Rattle.search.specs.declared.gaps.Outcome.TheVariants.{Plan}
use Rattle.search.specs.declared.gaps.GapTurn.{GapTurn}
use Rattle.search.specs.declared.gaps.GapEnd.{GapEnd}
use Rattle.search.specs.declared.gaps.GapEnd.TheVariants.{Found, Vain}
use Rattle.search.specs.declared.gaps.Probes.TheVariants.{AtPlan, AtCeiling}
use Rattle.search.specs.Walks.{SearchDue, OutcomeOf, Going, FirstTurn, probe_of, AfterVain, VainOn, GapAt, PlanFound, GapStep, GapNext, GapsVain, GapsDone}

-- ---- probes at gaps

-- none yet
module _ (file : File) (us w memo : List ℕ) (st : State) (at : GapTurn) (first : FirstTurn st at) where
  pub turn_first : (shown : Bool) → SearchDue file us st shown w memo → GapAt file us st at shown w memo
  unfolding GapAt
  turn_first shown d = record {
    going = record {
      walking = d.walk.walking;
      nothing = d.walk.fresh.nothing;
      small = d.walk.fresh.small;
      held = rw first.state_is d.walk.fresh.held;
    };
    some = first.some;
    fits = first.fits;
    none = d.none;
  }

  pub carried_first : Carried (problem file) w st.used w at.state.used
  carried_first = rw first.state_is (carried_same (problem file) w st.used)

module _ (file : File) (us : List ℕ) (st : State) (at : GapTurn) (shown : Bool) (w memo : List ℕ)
    (h : GapAt file us st at shown w memo) (more : at.gap.0 < at.room.0) where
  -- numbers in their ranges
  pub turn_fits : at.root.0 + at.gap.0 < MOST_LIMIT
  unfolding GapAt
  turn_fits = omega (arith, h.fits, h.going.small)

  -- what the turn after one in vain asks
  pub vain_asks : AfterVain file us at shown
  unfolding GapAt
  vain_asks = record {
    priced = record { priced = h.going.walking.dual.priced };
    none = h.none;
    some = h.some;
    more = more;
    few = omega (arith, h.fits, h.going.small);
  }

  -- a probe above the root's bound by a gap within the room
  module _ (probe : State) (is : probe ≡ probe_of at) where
    limit_is : probe.limit.0 ≡ at.root.0 + at.gap.0 + 1
    limit_is = ap (λ (x : State). x.limit.0) is

    used_is : probe.used ≡ at.state.used
    used_is = ap (λ (x : State). x.used) is

    -- it may begin
    pub gap_due : ProbeDue file us probe w memo
    unfolding GapAt
    gap_due = record {
      walking = h.going.walking;
      small = omega (arith, h.fits, h.going.small, limit_is);
      held = rw used_is h.going.held;
    }

    -- it has ended
    module _ (w' memo' : List ℕ) (step : Step) (done : RootDone (problem file) w w' probe step) (recalls : MemoTrue (problem file) (price_in us) memo') where
      carries : Carried (problem file) w at.state.used w' step.state.used
      carries = subst (λ (n : ℕ). Carried (problem file) w n w' step.state.used) used_is done.goes.carried

      goes : Going file us st step.state w' memo'
      unfolding GapAt
      goes = record {
        walking = record { dual = h.going.walking.dual; recalls = recalls };
        nothing = h.going.nothing;
        small = h.going.small;
        held = held_carried (problem file) w w' at.state.used step.state.used h.going.held carries;
      }

      -- with a plan
      pub gap_found : (o : Outcome) → OutcomeOf step probe.limit.0 o → o ≡ Plan → GapNext file us st w at w' memo' shown (Found step.state)
      unfolding GapAt
      gap_found o t e =
          let s : OutcomeOf step probe.limit.0 Plan = subst (OutcomeOf step probe.limit.0) e t in
          record {
            plan = record {
              going = goes;
              planned = record { below = omega (arith, s.1, limit_is, h.fits, more); least = done.settled s.0; plan = done.plan s.1 };
            };
            carried = carries;
            none = h.none;
          }

      -- in vain
      pub gap_vain : (shown' : Bool) (r : GapTurn) → VainOn (problem file) at step.state shown' r → GapNext file us st w at w' memo' shown' (Vain r)
      unfolding GapAt
      gap_vain shown' r v = record {
        next = record {
          going = rw v.state_is goes;
          some = omega (arith, v.rises);
          fits = rw (v.root_is, v.room_is) h.fits;
          none = v.none;
        };
        carried = rw v.state_is carries;
        room_is = ap (λ (c : Euro). c.0) v.room_is;
        rises = v.rises;
      }

-- one more: a plan
pub gaps_found : (file : File) (us : List ℕ) (st : State) (w : List ℕ) (at : GapTurn) (w' memo' : List ℕ) (shown' : Bool) (end : GapEnd)
    (s : State) (w₀ : List ℕ) → GapNext file us st w at w' memo' shown' end → end ≡ Found s → Carried (problem file) w₀ st.used w at.state.used
    → GapsDone file us w₀ st w' memo' shown' (AtPlan s)
gaps_found file us st w at w' memo' shown' end s w₀ h e c =
    let f : PlanFound file us st w at.state.used w' memo' shown' s = subst (GapNext file us st w at w' memo' shown') e h in
    record { plan = f.plan; carried = carried_next (problem file) w₀ w w' st.used at.state.used s.used c f.carried; none = f.none }

-- or in vain
module _ (file : File) (us : List ℕ) (st : State) (w : List ℕ) (at : GapTurn) (w' memo' : List ℕ) (shown' : Bool) (end : GapEnd) (r : GapTurn)
    (h : GapNext file us st w at w' memo' shown' end) (e : end ≡ Vain r) where
  step_of : GapStep file us st w at w' memo' shown' r
  step_of = subst (GapNext file us st w at w' memo' shown') e h

  pub turn_next : GapAt file us st r shown' w' memo'
  unfolding GapAt
  turn_next = step_of.next

  pub turn_carried : (w₀ : List ℕ) → Carried (problem file) w₀ st.used w at.state.used → Carried (problem file) w₀ st.used w' r.state.used
  turn_carried w₀ c = carried_next (problem file) w₀ w w' st.used at.state.used r.state.used c step_of.carried

-- after the last
pub gaps_vain : (file : File) (us w₀ : List ℕ) (st : State) (w memo : List ℕ) (at : GapTurn) (shown : Bool) (s : State)
    → GapAt file us st at shown w memo → Carried (problem file) w₀ st.used w at.state.used → s ≡ renewed_at at.state st.limit at.left
    → GapsDone file us w₀ st w memo shown (AtCeiling s)
unfolding GapAt
gaps_vain file us w₀ st w memo at shown s h c e = subst (GapsVain file us w₀ st w memo shown) (sym e) (record {
  vain = record {
    ceiling = record {
      going = record { walking = h.going.walking; nothing = h.going.nothing; small = h.going.small; held = h.going.held };
      own = refl;
    };
    none = h.none;
  };
  carried = c;
})
