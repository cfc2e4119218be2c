-- A lower bound of a week's places is one of the week: a set of units out and a run are a choice of states.
-- Assumes nothing.
use Prim.Native.Nat.{ℕ, zero, suc, ◌+◌, ◌-◌, ◌*◌, ◌≤◌, ◌<◌}
use mathlib.Core.Path.{◌≡◌, refl, sym, ◌∙◌, ap, subst}
use mathlib.Core.Bool.{Bool, true, false, not}
use mathlib.Core.List.{List}
use mathlib.Core.Logic.{◌⊎◌, ⊎_elim}
use native.Mathlib.Omega.{arith}
use Rattle.sums.specs.Logic.{if}
use Rattle.sums.specs.Sum.{sum_to, added, counts_one}
use Rattle.sums.specs.NumSet.{NumSet, only_in, parts, complement, has}
use Rattle.sums.proofs.SumLaws.{sum_same, sum_mono, sum_added}
use Rattle.sums.proofs.LogicLaws.{true_false, not_so}
use Rattle.model.specs.Problem.{Problem}
use Rattle.model.specs.Rules.{output, headcount}
use Rattle.model.specs.Pairs.{apart}
use Rattle.model.specs.Commitment.{Serves, line_cost, full_cost}
use Rattle.model.specs.Plan.{Compatible}
use Rattle.instance.specs.declared.file.File.{File}
use Rattle.instance.specs.File.{problem}
use Rattle.blame.specs.Priced.{WeekLeast}
use Rattle.blame.proofs.PairLaws.{PairOf, apart_pair}
use Rattle.tables.specs.Tables.{price_in, Partners}
use Rattle.states.specs.Choices.{Places, PlaceStates, given, paid, gone, gives, pays, goes, StateChoice, ChoiceFloor}
use Rattle.states.specs.SearchTables.{places_of, MOST_SCORE}
use Rattle.states.specs.declared.Costs.{Costs}
use Rattle.states.specs.Weeks.{SCALE, place_cap, place_on, place_off, place_out, PlacesTo, OutKnown, WeekNodeIs, WeekDue}
use Rattle.states.specs.declared.Advice.{Advice}
use Rattle.states.specs.declared.StateNode.{StateNode}
use Rattle.states.specs.declared.WeekTask.{WeekTask}
use Rattle.states.specs.declared.PlaceState.{PlaceState}
use Rattle.states.specs.declared.PlaceState.TheVariants.{On, Off, Out}

-- a unit's state: one that is out and shut stands OFF, which costs as much there
state_of : (shut out run : Bool) → PlaceState
state_of true true r = Off
state_of false true r = Out
state_of s false true = On
state_of s false false = Off

states_of : (shut out run : NumSet) → PlaceStates
states_of shut out run i = state_of (shut i) (out i) (run i)

-- ---- one unit: whether it is out already, shut, out, and runs

gives_line : (x s o r : Bool) (c : ℕ) → (x ≡ true → o ≡ true) → (o ≡ true → r ≡ false)
    → (f : PlaceState → ℕ) → f On ≡ if x 0 c → f Off ≡ 0 → f Out ≡ 0 → f (state_of s o r) ≡ if r c 0
unfolding state_of
gives_line x s true true c h g f a b d = true_false (g refl)
gives_line x true true false c h g f a b d = b
gives_line x false true false c h g f a b d = d
gives_line true s false r c h g f a b d = true_false (sym (h refl))
gives_line false s false true c h g f a b d = a
gives_line false s false false c h g f a b d = b

pays_line : (x s o r : Bool) (run off price : ℕ) → (x ≡ true → o ≡ true) → (o ≡ true → r ≡ false)
    → (s ≡ true → o ≡ true → (x ≡ true) ⊎ (price ≡ 0))
    → (f : PlaceState → ℕ) → f On ≡ if x off (run + price) * SCALE → f Off ≡ if x off (off + price) * SCALE → f Out ≡ off * SCALE
    → f (state_of s o r) ≡ ((if r run off) + (if (not o) price 0)) * SCALE
unfolding state_of
pays_line x s true true run off price h g k f a b d = true_false (g refl)
pays_line true true true false run off price h g k f a b d = omega (arith, b)
pays_line false true true false run off price h g k f a b d =
    ⊎_elim (λ (e : false ≡ true). true_false (sym e)) (λ (e : price ≡ 0). omega (arith, b, e)) (k refl refl)
pays_line x false true false run off price h g k f a b d = omega (arith, d)
pays_line true s false r run off price h g k f a b d = true_false (sym (h refl))
pays_line false s false true run off price h g k f a b d = a
pays_line false s false false run off price h g k f a b d = b

goes_line : (x s o r : Bool) → (x ≡ true → o ≡ true) → (x ≡ true → s ≡ true) → (if x 1 0) + gone (state_of s o r) ≤ if o 1 0
unfolding state_of gone
goes_line true true true r h k = omega arith
goes_line false true true r h k = omega arith
goes_line true false true r h k = true_false (sym (k refl))
goes_line false false true r h k = omega arith
goes_line true s false r h k = true_false (sym (h refl))
goes_line false s false true h k = omega arith
goes_line false s false false h k = omega arith

out_line : (s o r : Bool) → state_of s o r ≡ Out → (s ≡ false) × (o ≡ true)
unfolding state_of gone
out_line true true r e = let z : ◌≡◌ {A = ℕ} 0 1 = ap gone e in absurd (omega arith)
out_line false true r e = (refl, refl)
out_line s false true e = let z : ◌≡◌ {A = ℕ} 0 1 = ap gone e in absurd (omega arith)
out_line s false false e = let z : ◌≡◌ {A = ℕ} 0 1 = ap gone e in absurd (omega arith)

-- ---- sums and pairs

sum_scaled : (n : ℕ) (f : ℕ → ℕ) → sum_to n (λ i. f i * SCALE) ≡ sum_to n f * SCALE
unfolding sum_to
sum_scaled zero f = refl
sum_scaled (suc n) f = omega (arith, sum_scaled n f)

-- two units out together are no excluded pair
apart_out : (p : Problem) (x : NumSet) (i j : ℕ) → Compatible p x → x i ≡ true → x j ≡ true → apart p i j ≡ false
apart_out p x i j c f g = not_so (apart p i j) (λ e. by (apart_pair p i j e))
  where
    both : (n : ℕ) → n < p.pairs → x (p.pair_a n) ≡ true → x (p.pair_b n) ≡ true → ⊥
    both n b y z = true_false (sym z ∙ c.apart n b y)

    by : PairOf p i j → ⊥
    by q =
        ⊎_elim
        (λ (z : (p.pair_a q.at ≡ i) × (p.pair_b q.at ≡ j)). both q.at q.below (ap x z.0 ∙ f) (ap x z.1 ∙ g))
        (λ (z : (p.pair_a q.at ≡ j) × (p.pair_b q.at ≡ i)). both q.at q.below (ap x z.0 ∙ g) (ap x z.1 ∙ f))
        q.ends

-- ---- a week

module _ (p : Problem) (xs : List ℕ) (cs : Costs) (t : ℕ) (a : NumSet) (shut crews : ℕ) (h : PlacesTo p xs t a p.units cs)
    (partners : Partners p p.units xs) (known : OutKnown p (price_in xs) t a shut crews) where
  -- what a set of units out and a run come to
  module _ (out : NumSet) (r : ℕ) (c : Compatible p out) (sub : (i : ℕ) → i < p.units → a i ≡ true → out i ≡ true) (serves : Serves p t out r) where
    s : PlaceStates
    s = states_of (has shut) out (has r)

    q : Places
    q = places_of cs shut

    none : (i : ℕ) → i < p.units → out i ≡ true → has r i ≡ false
    none i l o = serves.run.free i l o

    given_all : sum_to p.units (gives q s) ≡ output p t (has r)
    unfolding output gives given only_in states_of s q place_cap
    given_all = sum_same p.units (gives q s) (only_in (has r) (p.capacity t))
        (λ i l. gives_line (a i) (has shut i) (out i) (has r i) (p.capacity t i) (sub i l) (none i l) (given q i) (h.caps.each i l) refl refl)

    paid_all : sum_to p.units (pays q s) ≡ (full_cost p t r + sum_to p.units (only_in (complement out) (price_in xs t))) * SCALE
    unfolding full_cost line_cost pays paid only_in parts complement added states_of s q place_on place_off place_out
    paid_all =
        let f : ℕ → ℕ = added (line_cost p t r) (only_in (complement out) (price_in xs t)) in
        let each : sum_to p.units (pays q s) ≡ sum_to p.units (λ i. f i * SCALE) = sum_same p.units (pays q s) (λ i. f i * SCALE)
        (λ i l. pays_line (a i) (has shut i) (out i) (has r i) (p.running t i) (p.off t i) (price_in xs t i) (sub i l) (none i l)
        (known.free out c sub i l) (paid q i) (h.ons.each i l) (h.offs.each i l) (h.outs.each i l)) in
        each ∙ sum_scaled p.units f ∙ ap (λ (n : ℕ). n * SCALE) (sum_added p.units (line_cost p t r) (only_in (complement out) (price_in xs t)))

    gone_all : headcount p a + sum_to p.units (goes s) ≤ headcount p out
    unfolding headcount goes only_in added counts_one states_of s
    gone_all =
        let f : ℕ → ℕ = added (only_in a counts_one) (goes s) in
        let each : sum_to p.units f ≤ sum_to p.units (only_in out counts_one) = sum_mono p.units f (only_in out counts_one)
        (λ i l. goes_line (a i) (has shut i) (out i) (has r i) (sub i l) (known.own i l)) in
        omega (arith, each, sum_added p.units (only_in a counts_one) (goes s))

    unshut : (i : ℕ) → s i ≡ Out → (has shut i ≡ false) × (out i ≡ true)
    unfolding states_of s
    unshut i e = out_line (has shut i) (out i) (has r i) e

    choice : StateChoice q p.units (p.demand t) crews (has shut) s
    unfolding q
    choice = record {
      enough = omega (arith, given_all, serves.meets);
      few = omega (arith, gone_all, c.crewed, known.crews);
      unshut = λ i l e. (unshut i e).0;
      free = λ i l e. (unshut i e).0;
      apart = λ i j l m e d.
          ap (λ (n : ℕ). has n j) (h.clashes.each i l) ∙ (partners.each i l).sets j ∙ apart_out p out i j c (unshut i e).1 (unshut j d).1;
    }

  -- so a lower bound of choices, scaled down and rounded up, is one of the week
  pub week_floor : (v best : ℕ) → ChoiceFloor (places_of cs shut) p.units (p.demand t) crews (has shut) 0 best → v * SCALE ≤ best + (SCALE - 1)
      → WeekLeast p (price_in xs) t a v
  unfolding q
  week_floor v best f l = record {
    below = λ out r c sub serves. omega (
      arith,
      l,
      f.below (s out r c sub serves) (choice out r c sub serves),
      paid_all out r c sub serves,
    );
  }

-- ---- the contracts' facts

-- the room that crews leave, by the node's number of crews
known_node : (p : Problem) (u : ℕ → ℕ → ℕ) (t : ℕ) (a : NumSet) (shut room crews : ℕ) → OutKnown p u t a shut room
    → (crews ≡ room) ⊎ (crews ≡ p.crews) → OutKnown p u t a shut crews
known_node p u t a shut room crews k e = record {
  own = k.own;
  free = k.free;
  crews = ⊎_elim (λ (z : crews ≡ room). omega (arith, z, k.crews)) (λ (z : crews ≡ p.crews). omega (arith, z)) e;
}

pub week_answer : (file : File) (xs : List ℕ) (cs : Costs) (w : WeekTask) (y : StateNode) (v best : ℕ) → WeekDue file xs w
    → PlacesTo (problem file) xs w.week (has w.out) file.layout.units cs → WeekNodeIs (problem file) w y
    → ChoiceFloor (places_of cs y.bar) file.layout.units y.need y.crews (has y.bar) y.score best → v * SCALE ≤ best + (SCALE - 1)
    → WeekLeast (problem file) (price_in xs) w.week (has w.out) v
week_answer file xs cs w y v best due places node floor small =
    let p = problem file in
    week_floor p xs cs w.week (has w.out) w.shut y.crews
    (subst (λ (n : ℕ). PlacesTo p xs w.week (has w.out) n cs) (sym file.filed.units_are) places) due.priced.partners
    (known_node p (price_in xs) w.week (has w.out) w.shut w.room y.crews due.known node.left) v best
    (subst (λ (n : ℕ). ChoiceFloor (places_of cs w.shut) n (p.demand w.week) y.crews (has w.shut) 0 best) (sym file.filed.units_are)
    (subst (λ (n : ℕ). ChoiceFloor (places_of cs n) file.layout.units (p.demand w.week) y.crews (has n) 0 best) node.bar
    (subst (λ (n : ℕ). ChoiceFloor (places_of cs y.bar) file.layout.units n y.crews (has y.bar) 0 best) node.need
    (subst (λ (n : ℕ). ChoiceFloor (places_of cs y.bar) file.layout.units y.need y.crews (has y.bar) n best) node.score floor))))
    small

pub week_less : (most best v start : ℕ) → start ≡ most * SCALE → best ≤ start → v * SCALE ≤ best + (SCALE - 1) → v ≤ most
week_less most best v start e l m = omega (arith, e, l, m)

pub best_fits : (most best start : ℕ) → most * SCALE ≤ MOST_SCORE → start ≡ most * SCALE → best ≤ start → best ≤ MOST_SCORE
best_fits most best start h e l = omega (arith, h, e, l)

-- tables made with the node's bar as the places that are never OUT
pub tables_shut : (c : Costs) (a : Advice) (k need crews : ℕ) (bar : NumSet) (score v shut : ℕ) → a.shut ≡ shut
    → ChoiceFloor (places_of c a.shut) k need crews bar score v → ChoiceFloor (places_of c shut) k need crews bar score v
tables_shut c a k need crews bar score v shut e f = subst (λ (n : ℕ). ChoiceFloor (places_of c n) k need crews bar score v) e f
