-- How many places are ON at least, and what that costs.
-- Assumes nothing.
use Prim.Native.Nat.{ℕ, zero, suc, ◌+◌, ◌-◌, ◌*◌, ◌≤◌, ◌<◌}
use mathlib.Core.Path.{◌≡◌, refl, subst}
use mathlib.Core.List.{List, []}
use native.Mathlib.Nat.{mul-le-mul_left}
use native.Mathlib.Decide.{dec_lt}
use native.Mathlib.Omega.{arith}
use lib.ListN.{get_or}
use Rattle.sums.specs.Sum.{sum_to}
use Rattle.sums.specs.NumSet.{NumSet}
use Rattle.sums.proofs.SumLaws.{sum_same}
use Rattle.states.specs.Choices.{Places, PlaceStates, given, paid, gives, pays, StateChoice, ChoiceFloor, counted, top_of, idle, gain}
use Rattle.states.specs.SearchTables.{SearchTables, OnsShort, places_of}
use Rattle.states.specs.declared.Costs.{Costs}
use Rattle.states.specs.declared.Sums.{Sums}
use Rattle.states.specs.SearchTables.{MOST_COST, MOST_COST_SUM, MOST_GAIN, MOST_GAIN_SUM, MOST_NEED}
use Rattle.states.specs.declared.PlaceState.{PlaceState}
use Rattle.states.specs.declared.PlaceState.TheVariants.{On, Off, Out}
use Rattle.states.specs.declared.Advice.{Advice}
use Rattle.states.proofs.ChoiceLaws.{rate_sum, idle_off}
use Rattle.states.proofs.RangeLaws.{sum_most, gain_most}

-- ---- what any j of the places below k give at most

top_none : (cap : ℕ → ℕ) (k : ℕ) → top_of cap k 0 ≡ 0
unfolding top_of
top_none cap zero = refl
top_none cap (suc k) = refl

top_first : (cap : ℕ → ℕ) (k j : ℕ) → top_of cap k j ≤ top_of cap (suc k) j
unfolding top_of
top_first cap k zero = omega (arith, top_none cap k)
top_first cap k (suc j) = omega arith

top_second : (cap : ℕ → ℕ) (k j : ℕ) → top_of cap k j + cap k ≤ top_of cap (suc k) (suc j)
unfolding top_of
top_second cap k j = omega arith

-- of more places no less
top_step : (cap : ℕ → ℕ) (k j : ℕ) → top_of cap k j ≤ top_of cap k (suc j)
unfolding top_of
top_step cap zero j = omega arith
top_step cap (suc k) zero = omega arith
top_step cap (suc k) (suc j) = omega (arith, top_step cap k (suc j), top_step cap k j)

top_more : (cap : ℕ → ℕ) (k j d : ℕ) → top_of cap k j ≤ top_of cap k (d + j)
top_more cap k j zero = let e : j ≡ 0 + j = omega arith in subst (λ (n : ℕ). top_of cap k j ≤ top_of cap k n) e (omega arith)
top_more cap k j (suc d) =
    let e : suc (d + j) ≡ suc d + j = omega arith in
    subst (λ (n : ℕ). top_of cap k j ≤ top_of cap k n) e (omega (arith, top_more cap k j d, top_step cap k (d + j)))

top_mono : (cap : ℕ → ℕ) (k i j : ℕ) → i ≤ j → top_of cap k i ≤ top_of cap k j
top_mono cap k i j l =
    let e : (j - i) + i ≡ j = omega arith in
    subst (λ (n : ℕ). top_of cap k i ≤ top_of cap k n) e (top_more cap k i (j - i))

top_gives : (p : Places) (s : PlaceStates) (k : ℕ) → sum_to k (gives p s) ≤ top_of p.cap k (sum_to k (gives (counted p) s))
unfolding sum_to gives given
top_gives p s zero = omega arith
top_gives p s (suc k) = by (s k) (top_gives p s k)
  where
    by : (st : PlaceState) → sum_to k (gives p s) ≤ top_of p.cap k (sum_to k (gives (counted p) s))
        → sum_to k (gives p s) + given p k st ≤ top_of p.cap (suc k) (sum_to k (gives (counted p) s) + given (counted p) k st)
    by On ih =
        let j = sum_to k (gives (counted p) s) in
        let e : suc j ≡ j + 1 = omega arith in
        subst (λ (n : ℕ). sum_to k (gives p s) + p.cap k ≤ top_of p.cap (suc k) n) e (omega (arith, ih, top_second p.cap k j))
    by Off ih =
        let j = sum_to k (gives (counted p) s) in
        let e : j ≡ j + 0 = omega arith in
        subst (λ (n : ℕ). sum_to k (gives p s) + 0 ≤ top_of p.cap (suc k) n) e (omega (arith, ih, top_first p.cap k j))
    by Out ih =
        let j = sum_to k (gives (counted p) s) in
        let e : j ≡ j + 0 = omega arith in
        subst (λ (n : ℕ). sum_to k (gives p s) + 0 ≤ top_of p.cap (suc k) n) e (omega (arith, ih, top_first p.cap k j))

-- ---- a lower bound where places are counted

pays_counted : (p : Places) (s : PlaceStates) (k : ℕ) → sum_to k (pays (counted p) s) ≡ sum_to k (pays p s)
unfolding pays paid
pays_counted p s k = sum_same k (pays (counted p) s) (pays p s) (λ i l. by i (s i))
  where
    by : (i : ℕ) (st : PlaceState) → paid (counted p) i st ≡ paid p i st
    by i On = refl
    by i Off = refl
    by i Out = refl

pub floor_count : (p : Places) (k need crews : ℕ) (bar : NumSet) (score rate price j r : ℕ) → (0 < j → top_of p.cap k (j - 1) < need)
    → r ≡ (score + rate * j + sum_to k (idle (counted p) price)) - (sum_to k (gain (counted p) rate price) + price * crews)
    → ChoiceFloor p k need crews bar score r
floor_count p k need crews bar score rate price j r t e = record { below = λ s c. by s c (enough s c) }
  where
    enough : (s : PlaceStates) → StateChoice p k need crews bar s → j ≤ sum_to k (gives (counted p) s)
    enough s c = at (dec_lt (sum_to k (gives (counted p) s)) j)
      where
        at : Dec (sum_to k (gives (counted p) s) < j) → j ≤ sum_to k (gives (counted p) s)
        at (yes l) =
            absurd (omega (
              arith,
              c.enough,
              top_gives p s k,
              top_mono p.cap k (sum_to k (gives (counted p) s)) (j - 1) (omega arith),
              t (omega arith),
            ))
        at (no n) = omega (arith, n)

    by : (s : PlaceStates) → StateChoice p k need crews bar s → j ≤ sum_to k (gives (counted p) s) → r ≤ score + sum_to k (pays p s)
    by s c l = omega (
      arith,
      e,
      rate_sum (counted p) rate price s k c.unshut,
      pays_counted p s k,
      mul-le-mul_left rate l,
      mul-le-mul_left price c.few,
    )

-- ---- from the table

module _ (c : Costs) (s : Sums) (a : Advice) (t : SearchTables c s a) (k : ℕ) (l : k ≤ 16) where
  abbrev p : Places
  p = counted (places_of c a.shut)

  pub unit_idle_under : get_or s.counted_idles k 0 ≤ MOST_COST_SUM
  unit_idle_under =
      let each : (i : ℕ) → i < 16 → idle p a.fee i ≤ MOST_COST = λ i m. omega (arith, idle_off p a.fee i, t.costs.offs.most i) in
      omega (arith, t.sums.counted_idles.each k l, sum_most (idle p a.fee) MOST_COST k each l)

  pub unit_gain_under : get_or s.counted_gains k 0 ≤ MOST_GAIN_SUM
  unit_gain_under =
      let each : (i : ℕ) → i < 16 → gain p a.unit a.fee i ≤ MOST_GAIN =
      λ i m. gain_most p a.unit a.fee i t.advice.unit_rate (omega arith) (t.costs.offs.most i) in
      omega (arith, t.sums.counted_gains.each k l, sum_most (gain p a.unit a.fee) MOST_GAIN k each l)

  pub short_few : (tops : List ℕ) (need r : ℕ) → OnsShort tops k need r → r ≤ MOST_NEED
  short_few tops need r h = omega (arith, h.most, l)

  pub by_count : (need crews : ℕ) (bar : NumSet) (score j r : ℕ) → OnsShort (get_or s.tops k []) k need j
      → r ≡ (score + a.unit * j + get_or s.counted_idles k 0) - (get_or s.counted_gains k 0 + a.fee * crews)
      → ChoiceFloor (places_of c a.shut) k need crews bar score r
  by_count need crews bar score j r h e =
      floor_count (places_of c a.shut) k need crews bar score a.unit a.fee j r
      (λ n. omega (arith, h.short n, (t.tops.each k l).each (j - 1) (omega (arith, h.most, l))))
      (rw (t.sums.counted_idles.each k l, t.sums.counted_gains.each k l) at e)
