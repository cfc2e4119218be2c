-- Lower bounds of what choices of states cost: at a rate and a price, from the states of the highest place, and where nothing is left.
-- Assumes nothing.
use Prim.Native.Nat.{ℕ, zero, suc, min, max, ◌+◌, ◌-◌, ◌*◌, ◌≤◌, ◌<◌}
use mathlib.Core.Path.{◌≡◌, refl}
use mathlib.Core.Bool.{Bool, true, false}
use native.Mathlib.Nat.{mul-le-mul_left, mul-add}
use native.Mathlib.Omega.{arith}
use Rattle.sums.specs.Logic.{if}
use Rattle.sums.specs.Sum.{sum_to}
use Rattle.sums.specs.NumSet.{NumSet}
use Rattle.states.specs.Choices.{Places, PlaceStates, given, paid, gone, gives, pays, goes, ChoiceFloor}
use Rattle.states.specs.Choices.{idle, gain, flat}
use Rattle.states.specs.declared.PlaceState.{PlaceState}
use Rattle.states.specs.declared.PlaceState.TheVariants.{On, Off, Out}

-- ---- one place

pub idle_off : (p : Places) (price i : ℕ) → idle p price i ≤ p.off i
unfolding idle
idle_off p price i = by (p.shut i)
  where
    by : (b : Bool) → if b (p.off i) (min (p.off i) (price + p.out i)) ≤ p.off i
    by true = omega arith
    by false = omega arith

idle_out : (p : Places) (price i : ℕ) → p.shut i ≡ false → idle p price i ≤ price + p.out i
unfolding idle
idle_out p price i e = rw e (omega arith)

gain_on : (p : Places) (rate price i : ℕ) → rate * p.cap i + idle p price i ≤ p.on i + gain p rate price i
unfolding gain
gain_on p rate price i = omega arith

pub flat_on : (p : Places) (price i : ℕ) → flat p price i ≤ p.on i
unfolding flat
flat_on p price i = omega arith

flat_idle : (p : Places) (price i : ℕ) → flat p price i ≤ idle p price i
unfolding flat
flat_idle p price i = omega arith

rate_line : (p : Places) (rate price i : ℕ) (st : PlaceState) → (st ≡ Out → p.shut i ≡ false)
    → rate * given p i st + idle p price i ≤ paid p i st + gain p rate price i + price * gone st
unfolding given paid gone
rate_line p rate price i On m = omega (arith, gain_on p rate price i)
rate_line p rate price i Off m = omega (arith, idle_off p price i)
rate_line p rate price i Out m = omega (arith, idle_out p price i (m refl))

flat_line : (p : Places) (price i : ℕ) (st : PlaceState) → (st ≡ Out → p.shut i ≡ false) → flat p price i ≤ paid p i st + price * gone st
unfolding paid gone
flat_line p price i On m = omega (arith, flat_on p price i)
flat_line p price i Off m = omega (arith, flat_idle p price i, idle_off p price i)
flat_line p price i Out m = omega (arith, flat_idle p price i, idle_out p price i (m refl))

-- ---- the places below k

pub rate_sum : (p : Places) (rate price : ℕ) (s : PlaceStates) (k : ℕ) → ((i : ℕ) → i < k → s i ≡ Out → p.shut i ≡ false)
    → rate * sum_to k (gives p s) + sum_to k (idle p price) ≤ sum_to k (pays p s) + sum_to k (gain p rate price) + price * sum_to k (goes s)
unfolding sum_to gives pays goes
rate_sum p rate price s zero m = omega arith
rate_sum p rate price s (suc k) m = omega (
  arith,
  rate_sum p rate price s k (λ i l. m i (omega arith)),
  rate_line p rate price k (s k) (m k (omega arith)),
  mul-add rate (sum_to k (gives p s)) (given p k (s k)),
  mul-add price (sum_to k (goes s)) (gone (s k)),
)

pub flat_sum : (p : Places) (price : ℕ) (s : PlaceStates) (k : ℕ) → ((i : ℕ) → i < k → s i ≡ Out → p.shut i ≡ false)
    → sum_to k (flat p price) ≤ sum_to k (pays p s) + price * sum_to k (goes s)
unfolding sum_to pays goes
flat_sum p price s zero m = omega arith
flat_sum p price s (suc k) m = omega (
  arith,
  flat_sum p price s k (λ i l. m i (omega arith)),
  flat_line p price k (s k) (m k (omega arith)),
  mul-add price (sum_to k (goes s)) (gone (s k)),
)

-- ---- lower bounds at a rate and a price

module _ (p : Places) (k need crews : ℕ) (bar : NumSet) (score : ℕ) where
  pub floor_rate : (rate price r : ℕ) → r ≡ (score + rate * need + sum_to k (idle p price)) - (sum_to k (gain p rate price) + price * crews)
      → ChoiceFloor p k need crews bar score r
  floor_rate rate price r e = record {
    below = λ s c. omega (
      arith,
      e,
      rate_sum p rate price s k c.unshut,
      mul-le-mul_left rate c.enough,
      mul-le-mul_left price c.few,
    );
  }

  pub floor_flat : (price r : ℕ) → r ≡ (score + sum_to k (flat p price)) - price * crews → ChoiceFloor p k need crews bar score r
  floor_flat price r e = record {
    below = λ s c. omega (arith, e, flat_sum p price s k c.unshut, mul-le-mul_left price c.few);
  }

  pub floor_score : ChoiceFloor p k need crews bar score score
  floor_score = record { below = λ s c. omega arith }

  pub floor_greater : (v w r : ℕ) → ChoiceFloor p k need crews bar score v → ChoiceFloor p k need crews bar score w → r ≡ max v w
      → ChoiceFloor p k need crews bar score r
  floor_greater v w r f g e = record { below = λ s c. omega (arith, f.below s c, g.below s c, e) }
