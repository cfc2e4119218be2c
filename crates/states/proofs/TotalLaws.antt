-- The table of sums: the terms of its rows, and the table filled place by place.
-- Assumes nothing.
use Prim.Native.Nat.{ℕ, zero, suc, min, max, ◌+◌, ◌-◌, ◌*◌, ◌≤◌, ◌<◌}
use mathlib.Core.Path.{◌≡◌, refl, ◌∙◌}
use mathlib.Core.Bool.{Bool, true, false}
use mathlib.Core.List.{List, []}
use native.Mathlib.Nat.{mul-le-mul_right}
use native.Mathlib.Numerals.{add-one}
use native.Mathlib.Decide.{dec_lt, ℕ_discrete}
use native.Mathlib.Omega.{arith}
use lib.ListN.{length, get_or, set, replicate, length-set, get_or-eq_default}
use lib.Seq.{get_or-set_same, get_or-set_other}
use Rattle.sums.specs.Sum.{sum_to}
use Rattle.sums.specs.NumSet.{has}
use Rattle.sums.specs.Table.{AtMost}
use Rattle.sums.proofs.SumLaws.{sum_suc}
use Rattle.sums.proofs.LoopLaws.{zeros_at, place_next}
use Rattle.states.specs.Choices.{idle, gain, flat, counted, top_of}
use Rattle.states.specs.SearchTables.{CostsInRange, SumsTo, TopRow, NextTops, TopsTo, places_of, MOST_CAP, MOST_COST, MOST_GAIN, MOST_NEED}
use Rattle.states.specs.declared.Costs.{Costs}
use Rattle.states.proofs.ChoiceLaws.{idle_off, flat_on}
use Rattle.states.proofs.RangeLaws.{gain_most, sum_most}

-- ---- the terms

module _ (c : Costs) (shut price i : ℕ) where
  pub idle_shut : (b : Bool) → b ≡ has shut i → b ≡ true → get_or c.offs i 0 ≡ idle (places_of c shut) price i
  unfolding idle
  idle_shut b is t = rw (← is, t) refl

  pub idle_free : (r : ℕ) (b : Bool) → b ≡ has shut i → b ≡ false → r ≡ min (get_or c.offs i 0) (price + get_or c.outs i 0)
      → r ≡ idle (places_of c shut) price i
  unfolding idle
  idle_free r b is t e = rw (← is, t) e

  pub idle_small : (r d : ℕ) → CostsInRange c → r ≡ min (get_or c.offs i 0) d → r ≤ MOST_COST
  idle_small r d h e = omega (arith, e, h.offs.most i)

  pub gain_is : (rate x r : ℕ) → x ≡ idle (places_of c shut) price i → r ≡ (rate * get_or c.caps i 0 + x) - get_or c.ons i 0
      → r ≡ gain (places_of c shut) rate price i
  unfolding gain
  gain_is rate x r e h = rw (← e) h

  pub unit_gain_is : (rate x r : ℕ) → x ≡ idle (places_of c shut) price i → r ≡ (rate * 1 + x) - get_or c.ons i 0
      → r ≡ gain (counted (places_of c shut)) rate price i
  unfolding gain idle
  unit_gain_is rate x r e h = rw (← e) h

  pub counted_is : (r : ℕ) → r ≡ idle (places_of c shut) price i → r ≡ idle (counted (places_of c shut)) price i
  unfolding idle
  counted_is r e = e

  pub flat_is : (x r : ℕ) → x ≡ idle (places_of c shut) price i → r ≡ min x (get_or c.ons i 0) → r ≡ flat (places_of c shut) price i
  unfolding flat
  flat_is x r e h = rw (← e) h

-- ---- a row of sums

pub row_start : (f : ℕ → ℕ) → SumsTo f 0 (replicate 17 0)
unfolding sum_to
row_start f = record { long = refl; each = λ k l. let e : k ≡ 0 = omega arith in rw e refl }

pub row_next : (f : ℕ → ℕ) (n v : ℕ) (xs : List ℕ) → SumsTo f n xs → n < 16 → v ≡ f n → SumsTo f (n + 1) (set xs (n + 1) (get_or xs n 0 + v))
row_next f n v xs h l e = record {
  long = length-set xs (n + 1) (get_or xs n 0 + v) ∙ h.long;
  each = λ k m. place_next (λ i r. r ≡ sum_to i f) xs (n + 1) (get_or xs n 0 + v) (omega (arith, l, h.long)) new (λ j b. h.each j (omega (arith, b))) k (omega (arith, m));
}
  where
    new : get_or xs n 0 + v ≡ sum_to (n + 1) f
    new = let q : n + 1 ≡ suc n = omega arith in rw q (omega (arith, e, h.each n (omega arith), sum_suc n f))

-- a sum with one more term fits
pub row_fits : (f : ℕ → ℕ) (n v : ℕ) (xs : List ℕ) → SumsTo f n xs → n < 16 → ((i : ℕ) → i < 16 → f i ≤ MOST_GAIN) → v ≡ f n
    → get_or xs n 0 + v < 18446744073709551616
row_fits f n v xs h l m e =
    omega (arith, h.each n (omega arith), sum_most f MOST_GAIN n m (omega arith), e, m n l)

-- no term is more than a gain may be
module _ (c : Costs) (shut : ℕ) (h : CostsInRange c) where
  pub cap_term : (i : ℕ) → i < 16 → get_or c.caps i 0 ≤ MOST_GAIN
  cap_term i l = omega (arith, h.caps.most i)

  pub idle_term : (price i : ℕ) → i < 16 → idle (places_of c shut) price i ≤ MOST_GAIN
  idle_term price i l = omega (arith, idle_off (places_of c shut) price i, h.offs.most i)

  pub counted_term : (price i : ℕ) → i < 16 → idle (counted (places_of c shut)) price i ≤ MOST_GAIN
  counted_term price i l = omega (arith, idle_off (counted (places_of c shut)) price i, h.offs.most i)

  pub flat_term : (price i : ℕ) → i < 16 → flat (places_of c shut) price i ≤ MOST_GAIN
  flat_term price i l = omega (arith, flat_on (places_of c shut) price i, h.ons.most i)

  pub gain_term : (rate price i : ℕ) → rate ≤ MOST_COST → i < 16 → gain (places_of c shut) rate price i ≤ MOST_GAIN
  gain_term rate price i m l = gain_most (places_of c shut) rate price i m (h.caps.most i) (h.offs.most i)

  pub unit_gain_term : (rate price i : ℕ) → rate ≤ MOST_COST → i < 16 → gain (counted (places_of c shut)) rate price i ≤ MOST_GAIN
  unit_gain_term rate price i m l = gain_most (counted (places_of c shut)) rate price i m (omega arith) (h.offs.most i)

-- ---- what any number of places give

top_most : (c : Costs) → CostsInRange c → (k j : ℕ) → k ≤ 16 → top_of (λ i. get_or c.caps i 0) k j ≤ k * MOST_CAP
unfolding top_of
top_most c h zero j l = omega arith
top_most c h (suc k) zero l = omega arith
top_most c h (suc k) (suc j) l = omega (arith, top_most c h k (suc j) (omega arith), top_most c h k j (omega arith), h.caps.most k)

-- ---- a row of them

pub next_start : (before : List ℕ) (cap : ℕ) → NextTops before cap 0 (replicate 17 0)
next_start before cap = record { long = refl; none = refl; some = λ j l. absurd (omega arith) }

pub next_more : (before xs : List ℕ) (cap j v : ℕ) → NextTops before cap j xs → j < 16 → v ≡ max (get_or before (j + 1) 0) (get_or before j 0 + cap)
    → NextTops before cap (j + 1) (set xs (j + 1) v)
next_more before xs cap j v h l e = record {
  long = length-set xs (j + 1) v ∙ h.long;
  none = get_or-set_other xs (j + 1) 0 v 0 (λ z. omega (arith, z)) ∙ h.none;
  some = λ i m. by i m (ℕ_discrete i j);
}
  where
    by : (i : ℕ) → i < j + 1 → Dec (i ≡ j) → get_or (set xs (j + 1) v) (i + 1) 0 ≡ max (get_or before (i + 1) 0) (get_or before i 0 + cap)
    by i m (yes z) = rw z (get_or-set_same xs (j + 1) v 0 (omega (arith, l, h.long)) ∙ e)
    by i m (no z) = get_or-set_other xs (j + 1) (i + 1) v 0 (λ q. z (omega (arith, q))) ∙ h.some i (omega (arith, m, z))

module _ (c : Costs) (k : ℕ) (tops : List (List ℕ)) (h : TopsTo c k tops) (l : k < 16) where
  abbrev cap : ℕ → ℕ
  cap i = get_or c.caps i 0

  abbrev before : List ℕ
  before = get_or tops k []

  old : TopRow cap k before
  old = h.each k (omega arith)

  pub row_small : CostsInRange c → AtMost MOST_NEED before
  row_small r = record { most = λ j. by j (dec_lt j 17) }
    where
      by : (j : ℕ) → Dec (j < 17) → get_or before j 0 ≤ MOST_NEED
      by j (yes m) =
          let q : k ≤ 16 = omega (arith, l) in
          omega (arith, old.each j (omega (arith, m)), top_most c r k j q, mul-le-mul_right MOST_CAP q)
      by j (no m) = let n : length before ≤ j = omega (arith, old.long, m) in omega (arith, get_or-eq_default before 0 n)

  row_more : (row : List ℕ) → NextTops before (cap k) 16 row → TopRow cap (suc k) row
  unfolding top_of
  row_more row n = record { long = n.long; each = by }
    where
      by : (j : ℕ) → j ≤ 16 → get_or row j 0 ≡ top_of cap (suc k) j
      by zero m = n.none
      by (suc j) m =
          let e : get_or row (j + 1) 0 ≡ max (get_or before (j + 1) 0) (get_or before j 0 + cap k) = n.some j (omega (arith, m)) in
          let a : get_or before (j + 1) 0 ≡ top_of cap k (suc j) = rw add-one (old.each (suc j) m) in
          let b : get_or before j 0 ≡ top_of cap k j = old.each j (omega (arith, m)) in
          (rw (a, b, add-one) at e)

  pub tops_more : (row : List ℕ) → NextTops before (cap k) 16 row → TopsTo c (k + 1) (set tops (k + 1) row)
  tops_more row n = record {
    long = length-set tops (k + 1) row ∙ h.long;
    each = λ i m. by i m (ℕ_discrete i (k + 1));
  }
    where
      by : (i : ℕ) → i ≤ k + 1 → Dec (i ≡ k + 1) → TopRow cap i (get_or (set tops (k + 1) row) i [])
      by i m (yes z) = rw (z, get_or-set_same tops (k + 1) row [] (omega (arith, l, h.long)), add-one) (row_more row n)
      by i m (no z) = rw (get_or-set_other tops (k + 1) i row [] z) (h.each i (omega (arith, m, z)))

pub tops_start : (c : Costs) (tops : List (List ℕ)) → length tops ≡ 17 → get_or tops 0 [] ≡ replicate 17 0 → TopsTo c 0 tops
unfolding top_of
tops_start c tops n e = record {
  long = n;
  each = λ k l. let z : k ≡ 0 = omega arith in rw (z, e) (record { long = refl; each = λ j m. zeros_at 17 j });
}
