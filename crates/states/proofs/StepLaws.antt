-- One place more: what its three states come to, and together.
-- Assumes nothing.
use Prim.Native.Nat.{ℕ, suc, ◌+◌, ◌-◌, ◌≤◌, ◌<◌}
use mathlib.Core.Path.{◌≡◌, refl, sym, ◌∙◌, ap, subst}
use mathlib.Core.Bool.{Bool, true, false, not, ◌&&◌, ◌||◌}
use mathlib.Core.List.{List}
use Rattle.std.specs.Prelude.{Option, Some, None, slice_index_or, get_or}
use native.Mathlib.Decide.{dec_lt, ℕ_discrete}
use native.Mathlib.Omega.{arith}
use lib.Dec.{ltb}
use borrow.Author.Tests.{lt-ltb, ltb-true}
use Rattle.sums.specs.Sum.{sum_to}
use Rattle.sums.specs.NumSet.{NumSet, has}
use Rattle.sums.proofs.LogicLaws.{true_false}
use Rattle.states.specs.Choices.{Places, PlaceStates, given, paid, gone, gives, pays, goes, StateChoice, ChoiceFloor, barred, StateTried, StateHeld, EachState, ChildComes, ChildMade, NodeIs, ChildIs, may_go}
use Rattle.states.specs.SearchTables.{places_of}
use Rattle.states.specs.declared.PlaceState.{PlaceState}
use Rattle.states.specs.declared.PlaceState.TheVariants.{On, Off, Out}
use Rattle.states.specs.declared.Costs.{Costs}
use Rattle.states.specs.declared.StateNode.{StateNode}

or_none : (a b : Bool) → a ≡ false → b ≡ false → (a || b) ≡ false
or_none true b e f = true_false e
or_none false b e f = f

-- ---- a choice without its highest place

module _ (p : Places) (k need crews : ℕ) (bar : NumSet) (s : PlaceStates) (c : StateChoice p (suc k) need crews bar s) where
  without_on : s k ≡ On → StateChoice p k (need - p.cap k) crews bar s
  unfolding sum_to gives goes given gone
  without_on e = record {
    enough = let h = ap (given p k) e in omega (arith, c.enough, h);
    few = omega (arith, c.few);
    unshut = λ i l. c.unshut i (omega arith);
    free = λ i l. c.free i (omega arith);
    apart = λ i j l. c.apart i j (omega arith);
  }

  without_off : s k ≡ Off → StateChoice p k need crews bar s
  unfolding sum_to gives goes given gone
  without_off e = record {
    enough = let h = ap (given p k) e in omega (arith, c.enough, h);
    few = omega (arith, c.few);
    unshut = λ i l. c.unshut i (omega arith);
    free = λ i l. c.free i (omega arith);
    apart = λ i j l. c.apart i j (omega arith);
  }

  without_out : s k ≡ Out → StateChoice p k need crews bar s
  unfolding sum_to gives goes given gone
  without_out e = record {
    enough = let h = ap (given p k) e in omega (arith, c.enough, h);
    few = omega (arith, c.few);
    unshut = λ i l. c.unshut i (omega arith);
    free = λ i l. c.free i (omega arith);
    apart = λ i j l. c.apart i j (omega arith);
  }

  -- with a crew less, and those barred that clash
  freed_out : s k ≡ Out → StateChoice p k need (crews - 1) (barred p k bar) s
  unfolding sum_to gives goes given gone barred
  freed_out e = record {
    enough = let h = ap (given p k) e in omega (arith, c.enough, h);
    few = let h = ap gone e in omega (arith, c.few, h);
    unshut = λ i l. c.unshut i (omega arith);
    free = λ i l o. or_none (bar i) (p.clash k i) (c.free i (omega arith) o) (c.apart k i (omega arith) l e o);
    apart = λ i j l. c.apart i j (omega arith);
  }

  crew_out : s k ≡ Out → 0 < crews
  unfolding sum_to goes gone
  crew_out e = let h = ap gone e in omega (arith, c.few, h)

-- less is needed, and the score is no more
floor_easier : (p : Places) (k need crews : ℕ) (bar : NumSet) (s : PlaceStates) → StateChoice p k need crews bar s → (rest : ℕ) → rest ≤ need → StateChoice p k rest crews bar s
floor_easier p k need crews bar s c rest h = record {
  enough = omega (arith, c.enough, h);
  few = c.few;
  unshut = c.unshut;
  free = c.free;
  apart = c.apart;
}

-- ---- the three states together

module _ (p : Places) (k need crews : ℕ) (bar : NumSet) (score v : ℕ) (h : (st : PlaceState) → StateTried p k need crews bar score v st) where
  -- a choice of the places below, with place k at the cost of OFF
  at_off : (s : PlaceStates) → StateChoice p k need crews bar s → v ≤ score + p.off k + sum_to k (pays p s)
  at_off s c = by (dec_lt (p.off k) (p.on k))
    where
      by : Dec (p.off k < p.on k) → v ≤ score + p.off k + sum_to k (pays p s)
      by (yes l) = (h Off l).below s c
      by (no n) =
          let e = (h On).below s (floor_easier p k need crews bar s c (need - p.cap k) (omega arith)) in omega (arith, e, n)

  at_out : (s : PlaceStates) → StateChoice p k need crews bar s → 0 < crews → bar k ≡ false → StateChoice p k need (crews - 1) (barred p k bar) s
      → v ≤ score + p.out k + sum_to k (pays p s)
  at_out s c r f d = by (dec_lt (p.out k) (p.off k))
    where
      by : Dec (p.out k < p.off k) → v ≤ score + p.out k + sum_to k (pays p s)
      by (yes l) = (h Out l r f).below s d
      by (no n) = omega (arith, at_off s c, n)

  pub floor_all : ChoiceFloor p (suc k) need crews bar score v
  unfolding sum_to pays paid
  floor_all = record { below = λ s c. by s c (s k) refl }
    where
      by : (s : PlaceStates) → StateChoice p (suc k) need crews bar s → (st : PlaceState) → s k ≡ st → v ≤ score + (sum_to k (pays p s) + paid p k (s k))
      by s c On e = let q = ap (paid p k) e in omega (arith, q, (h On).below s (without_on p k need crews bar s c e))
      by s c Off e = let q = ap (paid p k) e in omega (arith, q, at_off s (without_off p k need crews bar s c e))
      by s c Out e =
          let q = ap (paid p k) e in
          omega (
            arith,
            q,
            at_out s (without_out p k need crews bar s c e) (crew_out p k need crews bar s c e) (c.free k (omega arith) e)
                (freed_out p k need crews bar s c e),
          )

-- what is tried at a number is at a smaller one
tried_less : (p : Places) (k need crews : ℕ) (bar : NumSet) (score v w : ℕ) (st : PlaceState) → w ≤ v → StateTried p k need crews bar score v st
    → StateTried p k need crews bar score w st
tried_less p k need crews bar score v w On l t = record { below = λ s c. omega (arith, l, t.below s c) }
tried_less p k need crews bar score v w Off l t = λ h. record { below = λ s c. omega (arith, l, (t h).below s c) }
tried_less p k need crews bar score v w Out l t = λ h r f. record { below = λ s c. omega (arith, l, (t h r f).below s c) }

-- what is held at a number is at a smaller one
held_less : (p : Places) (k need crews : ℕ) (bar : NumSet) (score v w : ℕ) (st : PlaceState) → StateHeld p k need crews bar score v st → w ≤ v
    → StateHeld p k need crews bar score w st
held_less p k need crews bar score v w st h l = record { tried = tried_less p k need crews bar score v w st l h.tried }

-- one state more
pub tried_next : (p : Places) (k need crews : ℕ) (bar : NumSet) (score v w n : ℕ) (o : List PlaceState)
    → ((m : ℕ) → m < n → StateHeld p k need crews bar score v (slice_index_or o m On)) → w ≤ v
    → StateHeld p k need crews bar score w (slice_index_or o n On)
    → (m : ℕ) → m < n + 1 → StateHeld p k need crews bar score w (slice_index_or o m On)
tried_next p k need crews bar score v w n o h l x m b = by (ℕ_discrete m n)
  where
    by : Dec (m ≡ n) → StateHeld p k need crews bar score w (slice_index_or o m On)
    by (yes e) = subst (λ (i : ℕ). StateHeld p k need crews bar score w (slice_index_or o i On)) (sym e) x
    by (no z) = held_less p k need crews bar score v w (slice_index_or o m On) (h m (omega (arith, b, z))) l

-- three states in any order, each tried
pub floor_turn : (p : Places) (k need crews : ℕ) (bar : NumSet) (score r : ℕ) (o : List PlaceState) → 0 < k → EachState o
    → ((n : ℕ) → n < 3 → StateHeld p (k - 1) need crews bar score r (slice_index_or o n On))
    → ChoiceFloor p k need crews bar score r
floor_turn p k need crews bar score r o z each h =
    let q : suc (k - 1) ≡ k = omega arith in
    subst (λ (n : ℕ). ChoiceFloor p n need crews bar score r) q (floor_all p (k - 1) need crews bar score r all)
  where
    all : (st : PlaceState) → StateTried p (k - 1) need crews bar score r st
    all st =
        let e = each.one st in subst (StateTried p (k - 1) need crews bar score r) e.2 (h e.0 e.1).tried

-- ---- what comes of each

-- a lower bound of the node made is one of the node meant
next_floor : (p : Places) (i need crews score : ℕ) (bar : NumSet) (n : StateNode) → NodeIs need crews score bar n → (v : ℕ)
    → ChoiceFloor p i n.need n.crews (has n.bar) n.score v → ChoiceFloor p i need crews bar score v
next_floor p i need crews score bar n is v f = record {
  below = λ s d. omega (
    arith,
    is.score_is,
    f.below s (record {
      enough = omega (arith, d.enough, is.need_is);
      few = omega (arith, d.few, is.crews_is);
      unshut = d.unshut;
      free = λ j l o. is.bar_is j ∙ d.free j l o;
      apart = d.apart;
    }),
  );
}

may_go_lem : (off out crews : ℕ) (bar : NumSet) (i : ℕ) → may_go off out crews bar i ≡ false → out < off → 0 < crews → bar i ≡ false → ⊥
may_go_lem off out crews bar i e l r f = true_false (rw (lt-ltb out off l, lt-ltb 0 crews r, f) at e)

-- where it may go, a crew is left
pub go_crew : (off out crews : ℕ) (bar : NumSet) (i : ℕ) (r : Bool) → r ≡ may_go off out crews bar i → r ≡ true → 1 ≤ crews
go_crew off out crews bar i r e f = by (ltb out off) (ltb 0 crews) refl (sym e ∙ f)
  where
    by : (a b : Bool) → ltb 0 crews ≡ b → (a && b && not (bar i)) ≡ true → 1 ≤ crews
    by true true g h = ltb-true 0 crews g
    by true false g h = true_false (sym h)
    by false b g h = true_false (sym h)

module _ (p : Places) (i : ℕ) (y : StateNode) where
  by_off : (c : Option StateNode) → ChildIs (ltb (p.off i) (p.on i)) y.need y.crews (y.score + p.off i) (has y.bar) c → ChildComes p i y Off c
  by_off None e = record { held = λ v. record { tried = λ l. true_false (sym (lt-ltb (p.off i) (p.on i) l) ∙ e) } }
  by_off (Some n) is = record {
    crews = omega (arith, is.1.crews_is);
    held = λ v f. record { tried = λ l. next_floor p i _ _ _ _ n is.1 v f };
  }

  by_out : (c : Option StateNode)
      → ChildIs (may_go (p.off i) (p.out i) y.crews (has y.bar) i) y.need (y.crews - 1) (y.score + p.out i) (barred p i (has y.bar)) c
      → ChildComes p i y Out c
  by_out None e = record {
    held = λ v. record { tried = λ l r b. absurd (may_go_lem (p.off i) (p.out i) y.crews (has y.bar) i e l r b) };
  }
  by_out (Some n) is = record {
    crews = omega (arith, is.1.crews_is);
    held = λ v f. record { tried = λ l r b. next_floor p i _ _ _ _ n is.1 v f };
  }

  module _ (st : PlaceState) where
    pub comes_on : (n : StateNode) → st ≡ On → NodeIs (y.need - p.cap i) y.crews (y.score + p.on i) (has y.bar) n → ChildMade p i y st n
    comes_on n e is = subst (λ (q : PlaceState). ChildMade p i y q n) (sym e) (record {
      crews = omega (arith, is.crews_is);
      held = λ v f. record { tried = next_floor p i _ _ _ _ n is v f };
    })

    pub comes_off : (c : Option StateNode) → st ≡ Off → ChildIs (ltb (p.off i) (p.on i)) y.need y.crews (y.score + p.off i) (has y.bar) c
        → ChildComes p i y st c
    comes_off c e is = subst (λ (q : PlaceState). ChildComes p i y q c) (sym e) (by_off c is)

    pub comes_out : (c : Option StateNode) → st ≡ Out
        → ChildIs (may_go (p.off i) (p.out i) y.crews (has y.bar) i) y.need (y.crews - 1) (y.score + p.out i) (barred p i (has y.bar)) c
        → ChildComes p i y st c
    comes_out c e is = subst (λ (q : PlaceState). ChildComes p i y q c) (sym e) (by_out c is)

-- ---- the tests that are made

pub go_bit : (off out crews : ℕ) (bar : NumSet) (i : ℕ) (r b : Bool) → r ≡ may_go off out crews bar i → r ≡ b → may_go off out crews bar i ≡ b
go_bit off out crews bar i r b e f = sym e ∙ f

-- the places that are barred then
pub bar_or : (c : Costs) (shut i bar r : ℕ) → ((j : ℕ) → has r j ≡ (has bar j || has (get_or c.clashes i 0) j))
    → (j : ℕ) → has r j ≡ barred (places_of c shut) i (has bar) j
unfolding barred
bar_or c shut i bar r h j = h j

-- ---- orders

-- each state at its place
pub each_state : (o : List PlaceState) (a b c : ℕ) → a < 3 → b < 3 → c < 3 → slice_index_or o a On ≡ On → slice_index_or o b On ≡ Off
    → slice_index_or o c On ≡ Out → EachState o
each_state o a b c k l m e f g = record { one = by }
  where
    by : (st : PlaceState) → (n : ℕ) × (n < 3) × (slice_index_or o n On ≡ st)
    by On = (a, k, e)
    by Off = (b, l, f)
    by Out = (c, m, g)
