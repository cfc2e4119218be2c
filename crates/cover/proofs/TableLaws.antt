-- The tables that the choice of a cover is cut by, and why each cut is right.
-- Assumes nothing.
use Prim.Native.Nat.{ℕ, zero, suc, ◌+◌, ◌-◌, ◌*◌, ◌≤◌, ◌<◌}
use mathlib.Core.Path.{◌≡◌, refl, sym, ◌∙◌, ap, subst}
use mathlib.Core.Bool.{Bool, true, false, not}
use mathlib.Core.List.{List}
use native.Mathlib.Nat.{mul-le-mul, mul-le-mul_left, mul-le-mul_right, mul-add, add-mul, one-mul}
use native.Mathlib.Decide.{ℕ_discrete}
use native.Mathlib.Omega.{arith}
use lib.ListN.{get_or, set, replicate, length-set, length-replicate}
use lib.Seq.{get_or-set_same, get_or-set_other}
use lib.Dec.{leb}
use borrow.Author.Tests.{leb-true, lt-ltb, eq-eqb}
use Rattle.sums.specs.Logic.{if}
use Rattle.sums.specs.Sum.{sum_to}
use Rattle.sums.specs.NumSet.{NumSet, only_in, complement, has}
use Rattle.sums.specs.Table.{entry}
use Rattle.sums.proofs.LogicLaws.{true_false, and_right, and_last_false}
use Rattle.sums.proofs.LoopLaws.{zeros_at, sum_next}
use Rattle.sums.proofs.NumSetLaws.{pick_most, sum_over, sum_subset}
use Rattle.cover.specs.Cover.{UNCOVERED, Candidate, lighter_cover, cover_to}
use Rattle.cover.specs.Tables.{MOST_WEIGHT, MOST_SURPLUS, MOST_GAIN, GAINS, RATE, CUTS, Caps, Weights, surplus, spared, Cuts, CoverTables}
use Rattle.cover.proofs.CoverLaws.{cover_dull, cover_passed, cover_taken}

-- ---- the cuts

-- those taken weigh as much as the best already
pub cut_dear : (free : NumSet) (gives weighs : ℕ → ℕ) (k need weight best : ℕ) → best ≤ weight → best ≡ cover_to free gives weighs k need weight best
cut_dear free gives weighs k need weight best h = cover_dull free gives weighs k need weight best (λ z c. omega arith)

module _ (out : ℕ) (caps weights cuts : List ℕ) (k need weight best : ℕ) where
  -- the free units left cannot give what is needed
  pub cut_room : CoverTables out caps weights cuts → k ≤ 16 → get_or cuts k 0 < need
      → best ≡ cover_to (complement (has out)) (entry caps) (entry weights) k need weight best
  unfolding entry
  cut_room y l h =
      cover_dull (complement (has out)) (entry caps) (entry weights) k need weight best
      (λ z c. absurd (omega (arith, c.enough, y.cut.rooms k l, sum_subset k z (complement (has out)) (entry caps) c.allowed)))

-- ---- at a rate for a kilogram

surplus_at : (rate : ℕ) (gives weighs : ℕ → ℕ) (i : ℕ) → rate * gives i ≤ weighs i + surplus rate gives weighs i
unfolding surplus
surplus_at rate gives weighs i = omega arith

-- what a set of free units gives is worth at most its weight and what all free units yield above theirs
pub surplus_most : (rate : ℕ) (free : NumSet) (gives weighs : ℕ → ℕ) (z : NumSet) (k : ℕ) → ((i : ℕ) → i < k → z i ≡ true → free i ≡ true)
    → rate * sum_to k (only_in z gives) ≤ sum_to k (only_in z weighs) + sum_to k (only_in free (surplus rate gives weighs))
unfolding sum_to only_in
surplus_most rate free gives weighs z zero h = omega arith
surplus_most rate free gives weighs z (suc k) h = by (z k) refl (free k) refl (surplus_most rate free gives weighs z k (λ i l. h i (omega arith)))
  where
    by : (a : Bool) → z k ≡ a → (b : Bool) → free k ≡ b
        → rate * sum_to k (only_in z gives) ≤ sum_to k (only_in z weighs) + sum_to k (only_in free (surplus rate gives weighs))
        → rate * (sum_to k (only_in z gives) + if a (gives k) 0) ≤ sum_to k (only_in z weighs) + if a (weighs k) 0 +
        (sum_to k (only_in free (surplus rate gives weighs)) + if b (surplus rate gives weighs k) 0)
    by true e true f ih = omega (arith, ih, mul-add rate (sum_to k (only_in z gives)) (gives k), surplus_at rate gives weighs k)
    by true e false f ih = true_false (sym (h k (omega arith) e) ∙ f)
    by false e true f ih = omega (arith, ih, mul-add rate (sum_to k (only_in z gives)) 0)
    by false e false f ih = omega (arith, ih, mul-add rate (sum_to k (only_in z gives)) 0)

-- the rest of the need cannot be had below the best
pub cut_rate : (out : ℕ) (caps weights cuts : List ℕ) (k need weight best : ℕ) (r : Bool) → CoverTables out caps weights cuts → k ≤ 16
    → r ≡ true → r ≡ leb (best + get_or cuts (GAINS + k) 0) (weight + get_or cuts RATE 0 * need)
    → best ≡ cover_to (complement (has out)) (entry caps) (entry weights) k need weight best
unfolding entry
cut_rate out caps weights cuts k need weight best r y l e is =
    let says = leb-true (best + get_or cuts (GAINS + k) 0) (weight + get_or cuts RATE 0 * need) (sym is ∙ e) in
    cover_dull (complement (has out)) (entry caps) (entry weights) k need weight best
    (λ z c. omega (
      arith,
      says,
      mul-le-mul_left (get_or cuts RATE 0) c.enough,
      surplus_most (get_or cuts RATE 0) (complement (has out)) (entry caps) (entry weights) z k c.allowed,
      y.cut.gains k l,
    ))

-- ---- products and sums that fit a word

-- a weight and a capacity
pub weigh_fits : (caps weights : List ℕ) (i j : ℕ) → Caps caps → Weights weights → get_or weights i 0 * get_or caps j 0 < 18446744073709551616
unfolding entry
weigh_fits caps weights i j a b = omega (arith, mul-le-mul (b.most i) (a.most j))

-- rate and a capacity
pub rate_fits : (caps : List ℕ) (rate i : ℕ) → Caps caps → rate ≤ MOST_WEIGHT → rate * get_or caps i 0 < 18446744073709551616
unfolding entry
rate_fits caps rate i a l = omega (arith, mul-le-mul l (a.most i))

-- a quotient of a weight
pub ratio_most : (weights : List ℕ) (i r : ℕ) → Weights weights → r ≤ get_or weights i 0 → r ≤ MOST_WEIGHT
unfolding entry
ratio_most weights i r w h = omega (arith, w.most i)

-- rate and what is needed
pub need_fits : (rate need : ℕ) → rate ≤ MOST_WEIGHT → need ≤ 16000000 → rate * need < 18446744073709551616
need_fits rate need l n = omega (arith, mul-le-mul l n)

-- and those taken on top
pub weight_fits : (rate need weight best : ℕ) → rate ≤ MOST_WEIGHT → need ≤ 16000000 → weight < best → best ≤ UNCOVERED
    → weight + rate * need < 18446744073709551616
weight_fits rate need weight best l n h b = omega (arith, mul-le-mul l n)

-- a sum of up to 16 terms
sum_most : (p : NumSet) (f : ℕ → ℕ) (most k : ℕ) → ((i : ℕ) → f i ≤ most) → k ≤ 16 → sum_to k (only_in p f) ≤ 16 * most
sum_most p f most k h l = omega (arith, sum_over k most p f (λ i d. h i), mul-le-mul_right most l)

-- the next term as well
term_most : (p : NumSet) (f : ℕ → ℕ) (most k s r : ℕ) → ((i : ℕ) → f i ≤ most) → s ≡ sum_to k (only_in p f) → r ≡ only_in p f k → k < 16 → s + r ≤ 17 * most
term_most p f most k s r h e t l =
    omega (arith, sum_most p f most k h (omega arith), pick_most p f most k (h k), add-mul 16 1 most, one-mul most)

-- capacities added
pub room_fits : (xs : List ℕ) (p : NumSet) (f : ℕ → ℕ) (rate k r : ℕ) (cuts : List ℕ) → Caps xs → Cuts p (entry xs) f rate k cuts → k < 16
    → r ≡ only_in p (entry xs) k → get_or cuts k 0 + r < 18446744073709551616
unfolding entry
room_fits xs p f rate k r cuts a h l t = omega (arith, term_most p (entry xs) 1000000 k (get_or cuts k 0) r a.most (h.rooms k (omega arith)) t l)

-- and below a bound of the code's own
pub caps_below : (xs : List ℕ) (p : NumSet) (u k s r : ℕ) → Caps xs → u ≤ 16 → k < u → s ≡ sum_to k (only_in p (entry xs)) → r ≡ only_in p (entry xs) k
    → s + r < 18446744073709551616
unfolding entry
caps_below xs p u k s r a few l e t = omega (arith, term_most p (entry xs) 1000000 k s r a.most e t (omega arith))

-- weights added
pub weights_below : (xs : List ℕ) (p : NumSet) (u k s r : ℕ) → Weights xs → u ≤ 16 → k < u → s ≡ sum_to k (only_in p (entry xs)) → r ≡ only_in p (entry xs) k
    → s + r < 18446744073709551616
unfolding entry
weights_below xs p u k s r a few l e t = omega (arith, term_most p (entry xs) MOST_WEIGHT k s r a.most e t (omega arith))

surplus_small : (rate : ℕ) (caps weights : List ℕ) → Caps caps → rate ≤ MOST_WEIGHT
    → (i : ℕ) → surplus rate (entry caps) (entry weights) i ≤ MOST_SURPLUS
unfolding surplus entry
surplus_small rate caps weights a l i = omega (arith, mul-le-mul l (a.most i))

-- surpluses added
pub gain_fits : (rate : ℕ) (caps weights : List ℕ) (p : NumSet) (k r : ℕ) (cuts : List ℕ) → Caps caps → rate ≤ MOST_WEIGHT
    → Cuts p (entry caps) (surplus rate (entry caps) (entry weights)) rate k cuts → k < 16
    → r ≡ only_in p (surplus rate (entry caps) (entry weights)) k → get_or cuts (GAINS + k) 0 + r < 18446744073709551616
unfolding entry
gain_fits rate caps weights p k r cuts a l h few t =
    omega (arith, term_most p (surplus rate (entry caps) (entry weights)) MOST_SURPLUS k (get_or cuts (GAINS + k) 0) r (surplus_small rate caps weights a l) (h.gains k (omega arith)) t few)

-- ---- one unit's part

-- a unit that is out has none
pub away_out : (out k : ℕ) (f : ℕ → ℕ) (b : Bool) → b ≡ true → b ≡ has out k → 0 ≡ only_in (complement (has out)) f k
unfolding only_in complement
away_out out k f b e is = rw (← is, e)

-- one that is not has its own
pub away_in : (out k : ℕ) (xs : List ℕ) (b : Bool) → b ≡ false → b ≡ has out k → get_or xs k 0 ≡ only_in (complement (has out)) (entry xs) k
unfolding only_in complement entry
away_in out k xs b e is = rw (← is, e)

pub away_surplus : (out k rate : ℕ) (caps weights : List ℕ) (r : ℕ) (b : Bool) → b ≡ false → b ≡ has out k
    → r ≡ rate * get_or caps k 0 - get_or weights k 0
    → r ≡ only_in (complement (has out)) (surplus rate (entry caps) (entry weights)) k
unfolding only_in complement entry surplus
away_surplus out k rate caps weights r b e is t = rw (← is, e) t

-- of a guess a unit counts that is not out
pub spared_out : (out guess k : ℕ) (f : ℕ → ℕ) (b : Bool) → b ≡ true → b ≡ has out k → 0 ≡ only_in (spared out guess) f k
unfolding only_in spared
spared_out out guess k f b e is = rw (← is, e, and_last_false (has guess k))

pub spared_in : (out guess k : ℕ) (xs : List ℕ) (b d : Bool) → b ≡ false → b ≡ has out k → d ≡ true → d ≡ has guess k
    → get_or xs k 0 ≡ only_in (spared out guess) (entry xs) k
unfolding only_in spared entry
spared_in out guess k xs b d e is g ha = rw (← is, ← ha, e, g)

pub spared_not : (out guess k : ℕ) (f : ℕ → ℕ) (d : Bool) → d ≡ false → d ≡ has guess k → 0 ≡ only_in (spared out guess) f k
unfolding only_in spared
spared_not out guess k f d g ha = rw (← ha, g)

-- ---- the table that cuts the choice, place by place

-- the rate, and the sums over no unit
pub cuts_start : (free : NumSet) (gives yields : ℕ → ℕ) (rate : ℕ) → Cuts free gives yields rate 0 (set (replicate CUTS 0) RATE rate)
unfolding sum_to entry
cuts_start free gives yields rate = record {
  long = length-set (replicate CUTS 0) RATE rate ∙ length-replicate {A = ℕ} CUTS 0;
  rate_is = get_or-set_same (replicate CUTS 0) RATE rate 0 (omega (arith, length-replicate {A = ℕ} CUTS 0));
  rooms = λ k l. let e : k ≡ 0 = omega arith in rw e (other 0 (λ z. omega arith));
  gains = λ k l. let e : k ≡ 0 = omega arith in rw e (other GAINS (λ z. omega arith));
}
  where
    other : (k : ℕ) → (k ≡ RATE → ⊥) → ◌≡◌ {A = ℕ} (get_or (set (replicate CUTS 0) RATE rate) k 0) 0
    other k apart = get_or-set_other (replicate CUTS 0) RATE k rate 0 apart ∙ zeros_at CUTS k

-- those with one unit more
pub cuts_next : (free : NumSet) (gives yields : ℕ → ℕ) (rate k r v q w : ℕ) (cuts : List ℕ) → Cuts free gives yields rate k cuts → k < 16
    → r ≡ only_in free gives k → v ≡ get_or cuts k 0 + r → q ≡ only_in free yields k → w ≡ get_or cuts (GAINS + k) 0 + q
    → Cuts free gives yields rate (k + 1) (set (set cuts (k + 1) v) (GAINS + k + 1) w)
unfolding entry
cuts_next free gives yields rate k r v q w cuts h few er ev eq ew = record {
  long = length-set ys (GAINS + k + 1) w ∙ length-set cuts (k + 1) v ∙ h.long;
  rate_is = other RATE (λ z. omega arith) (λ z. omega arith) ∙ h.rate_is;
  rooms = λ j l. room j l (ℕ_discrete j (k + 1));
  gains = λ j l. gain j l (ℕ_discrete j (k + 1));
}
  where
    ys : List ℕ
    ys = set cuts (k + 1) v

    other : (j : ℕ) → (j ≡ GAINS + k + 1 → ⊥) → (j ≡ k + 1 → ⊥) → get_or (set ys (GAINS + k + 1) w) j 0 ≡ get_or cuts j 0
    other j far near = get_or-set_other ys (GAINS + k + 1) j w 0 far ∙ get_or-set_other cuts (k + 1) j v 0 near

    room : (j : ℕ) → j ≤ k + 1 → Dec (j ≡ k + 1) → get_or (set ys (GAINS + k + 1) w) j 0 ≡ sum_to j (only_in free gives)
    room j l (yes e) =
        rw e (get_or-set_other ys (GAINS + k + 1) (k + 1) w 0 (λ z. omega arith) ∙ get_or-set_same cuts (k + 1) v 0 (omega (arith, h.long))
        ∙ sum_next (only_in free gives) k (get_or cuts k 0) r v (h.rooms k (omega arith)) er ev)
    room j l (no n) = other j (λ z. omega arith) n ∙ h.rooms j (omega arith)

    gain : (j : ℕ) → j ≤ k + 1 → Dec (j ≡ k + 1) → get_or (set ys (GAINS + k + 1) w) (GAINS + j) 0 ≡ sum_to j (only_in free yields)
    gain j l (yes e) =
        let place : GAINS + j ≡ GAINS + k + 1 = omega arith in
        rw place (get_or-set_same ys (GAINS + k + 1) w 0 (omega (arith, h.long, length-set cuts (k + 1) v))
        ∙ sum_next (only_in free yields) k (get_or cuts (GAINS + k) 0) q w (h.gains k (omega arith)) eq ew ∙ ap (λ (n : ℕ). sum_to n (only_in free yields)) (sym e))
    gain j l (no n) = other (GAINS + j) (λ z. n (omega arith)) (λ z. omega arith) ∙ h.gains j (omega arith)

-- of all units
pub cuts_ended : (free : NumSet) (gives yields : ℕ → ℕ) (rate k : ℕ) (cuts : List ℕ) → k ≤ 16 → 16 ≤ k → Cuts free gives yields rate k cuts
    → Cuts free gives yields rate 16 cuts
cuts_ended free gives yields rate k cuts l m h = let e : k ≡ 16 = omega arith in subst (λ (n : ℕ). Cuts free gives yields rate n cuts) e h

-- ---- the guess

-- one that falls short is none
pub candidate_none : (free : NumSet) (gives weighs : ℕ → ℕ) (k need : ℕ) → Candidate free gives weighs k need UNCOVERED
candidate_none free gives weighs k need = record { most = omega arith; reached = λ l. absurd (omega arith) }

spared_free : (out guess i : ℕ) → spared out guess i ≡ true → complement (has out) i ≡ true
unfolding spared complement
spared_free out guess i e = and_right (has guess i) (not (has out i)) e

-- one that suffices
pub candidate_some : (caps weights : List ℕ) (out guess u need given weight : ℕ) → Weights weights → u ≤ 16
    → given ≡ sum_to u (only_in (spared out guess) (entry caps)) → need ≤ given → weight ≡ sum_to u (only_in (spared out guess) (entry weights))
    → Candidate (complement (has out)) (entry caps) (entry weights) u need weight
unfolding entry
candidate_some caps weights out guess u need given weight w few a n b = record {
  most = omega (arith, b, sum_most (spared out guess) (entry weights) MOST_WEIGHT u w.most few);
  reached = λ z. record {
    set = spared out guess;
    covers = record { allowed = λ i d. spared_free out guess i; enough = omega arith };
    weight = omega arith;
  };
}

-- ---- a turn of the walk

-- the walk is lent all that it asks for
pub ready : (out rate : ℕ) (caps weights cuts : List ℕ) → Caps caps → Weights weights → rate ≤ MOST_WEIGHT
    → Cuts (complement (has out)) (entry caps) (surplus rate (entry caps) (entry weights)) rate 16 cuts → CoverTables out caps weights cuts
ready out rate caps weights cuts a w l h =
    let own : Cuts (complement (has out)) (entry caps) (surplus (entry cuts RATE) (entry caps) (entry weights)) (entry cuts RATE) 16 cuts
    = subst (λ (x : ℕ). Cuts (complement (has out)) (entry caps) (surplus x (entry caps) (entry weights)) x 16 cuts) (sym h.rate_is) h in
    record { caps_fit = a; weights_fit = w; rate_most = omega (arith, h.rate_is); cut = own }

-- the rate of the table
pub rate_small : (out : ℕ) (caps weights cuts : List ℕ) → CoverTables out caps weights cuts → get_or cuts RATE 0 ≤ MOST_WEIGHT
unfolding entry
rate_small out caps weights cuts y = y.rate_most

module _ (out : ℕ) (caps weights cuts : List ℕ) (k need : ℕ) (y : CoverTables out caps weights cuts) (l : k ≤ 16) where
  -- what is needed where the room suffices
  pub need_small : need ≤ get_or cuts k 0 → need ≤ 16000000
  unfolding entry
  need_small h = omega (arith, y.cut.rooms k l, sum_most (complement (has out)) (entry caps) 1000000 k y.caps_fit.most l)

  -- what the free units yield
  pub gain_small : get_or cuts (GAINS + k) 0 ≤ MOST_GAIN
  unfolding entry
  gain_small =
      let rate = get_or cuts RATE 0 in
      let most = surplus_small rate caps weights y.caps_fit y.rate_most in
      omega (arith, y.cut.gains k l, sum_most (complement (has out)) (surplus rate (entry caps) (entry weights)) MOST_SURPLUS k most l)

  -- no unit is left, and nothing is needed
  pub leaf : (weight best : ℕ) → k ≡ 0 → need ≤ get_or cuts k 0 → weight < best
      → weight ≡ cover_to (complement (has out)) (entry caps) (entry weights) k need weight best
  unfolding cover_to lighter_cover entry sum_to
  leaf weight best e h b =
      let r : get_or cuts k 0 ≡ sum_to k (only_in (complement (has out)) (entry caps)) = y.cut.rooms k l in
      rw (e) (rw (eq-eqb need 0 (omega (arith, r, ap (λ (n : ℕ). sum_to n (only_in (complement (has out)) (entry caps))) e)), lt-ltb weight best b))

-- unit k - 1 is out
pub turn_out : (out : ℕ) (gives weighs : ℕ → ℕ) (k need weight best low : ℕ) (b : Bool) → b ≡ true → b ≡ has out (k - 1) → (k ≡ 0 → ⊥)
    → low ≡ cover_to (complement (has out)) gives weighs (k - 1) need weight best → low ≡ cover_to (complement (has out)) gives weighs k need weight best
unfolding complement
turn_out out gives weighs k need weight best low b e is z h =
    let q : k ≡ suc (k - 1) = omega arith in
    rw q (h ∙ sym (cover_passed (complement (has out)) gives weighs (k - 1) need weight best (ap not (sym is ∙ e))))

-- or it is not: the choice goes on with it taken
pub turn_in : (out : ℕ) (caps weights : List ℕ) (k need weight best low rest more r : ℕ) (b : Bool) → b ≡ false → b ≡ has out (k - 1) → (k ≡ 0 → ⊥)
    → low ≡ cover_to (complement (has out)) (entry caps) (entry weights) (k - 1) need weight best → rest ≡ need - get_or caps (k - 1) 0
    → more ≡ weight + entry weights (k - 1) → r ≡ cover_to (complement (has out)) (entry caps) (entry weights) (k - 1) rest more low
    → r ≡ cover_to (complement (has out)) (entry caps) (entry weights) k need weight best
unfolding complement entry
turn_in out caps weights k need weight best low rest more r b e is z h n m t =
    let q : k ≡ suc (k - 1) = omega arith in
    rw q (rw (n, m, h) at t ∙ sym (cover_taken (complement (has out)) (entry caps) (entry weights) (k - 1) need weight best (ap not (sym is ∙ e))))

-- a weight more fits a word
pub weight_more : (weights : List ℕ) (i weight : ℕ) → Weights weights → weight < UNCOVERED → weight + get_or weights i 0 < 18446744073709551616
weight_more weights i weight w h = omega (arith, w.most i)
