-- The sizing figure step by step: what is cut off at the greatest figure stays cut off.
-- Assumes nothing.
use Prim.Native.Nat.{ℕ, zero, suc, ◌+◌, ◌*◌, ◌^◌, ◌≤◌, ◌<◌, min}
use mathlib.Core.Path.{◌≡◌, refl}
use mathlib.Core.List.{List}
use native.Mathlib.Decide.{dec_lt}
use native.Mathlib.Nat.{pow-zero, pow-suc, mul-le-mul, mul-one, mul-zero, le_refl, le_of_lt}
use native.Mathlib.Numerals.{add-one}
use native.Mathlib.Omega.{arith}
use mir.Syntax.{w64}
use mir.Val.{Fits}
use Rattle.sums.specs.Sum.{sum_to}
use Rattle.model.specs.Words.{VALUES, value_at, problem_of}
use Rattle.model.specs.Prefix.{next_power, space_bound, MOST_FIGURE}
use Rattle.model.specs.Verdict.{accepted, refused, gives, refused_figure}
use Rattle.model.specs.Reading.{read_of}
use Rattle.model.specs.Sizing.{sizing_of}

-- a factor of 1 or more makes nothing smaller
mul_grows : (a w : ℕ) → a ≤ a * suc w
mul_grows a w = let g : 1 ≤ suc w = omega arith in omega (arith, mul-le-mul (le_refl a) g, mul-one a)

cap_product : (c a w : ℕ) → min c (min c a * w) ≡ min c (a * w)
cap_product c a zero = rw (mul-zero (min c a), mul-zero a)
cap_product c a (suc w) = go (dec_lt c a)
  where
    go : Dec (c < a) → min c (min c a * suc w) ≡ min c (a * suc w)
    go (yes h) = let e : min c a ≡ c = omega arith in rw e (omega (arith, mul_grows c w, mul_grows a w))
    go (no h) = let e : min c a ≡ a = omega arith in rw e

-- before the first power
pub sum_start : (w : ℕ) → 0 ≡ min MOST_FIGURE (sum_to 0 (next_power w))
unfolding sum_to
sum_start w = refl

pub power_start : (w : ℕ) → 1 ≡ min MOST_FIGURE (w ^ 0)
power_start w = rw (pow-zero w)

-- a figure times a number of weeks is a machine's number
pub cap_fits : (w power : ℕ) → w < VALUES → power ≤ MOST_FIGURE → Fits w64 (power * w)
cap_fits w power h p = omega (arith, mul-le-mul p (le_of_lt h))

-- the next power
pub cap_power : (w j power r : ℕ) → power ≡ min MOST_FIGURE (w ^ j) → r ≡ min MOST_FIGURE (power * w) → r ≡ min MOST_FIGURE (w ^ (j + 1))
cap_power w j power r e is = let q = cap_product MOST_FIGURE (w ^ j) w in rw (add-one, pow-suc, ← q, ← e) is

-- the next sum
pub cap_sum : (w j sum power next r : ℕ) → sum ≡ min MOST_FIGURE (sum_to j (next_power w)) → power ≡ min MOST_FIGURE (w ^ j)
    → next ≡ min MOST_FIGURE (power * w) → r ≡ min MOST_FIGURE (sum + next) → r ≡ min MOST_FIGURE (sum_to (j + 1) (next_power w))
unfolding sum_to next_power
cap_sum w j sum power next r es ep en is = let e = cap_power w j power next ep en in rw add-one (omega arith)

-- all powers
pub cap_ended : (w j u sum : ℕ) → sum ≡ min MOST_FIGURE (sum_to j (next_power w)) → j ≤ u → u ≤ j → sum ≡ min MOST_FIGURE (sum_to u (next_power w))
cap_ended w j u sum e h g = let q : j ≡ u = omega arith in rw q at e

-- ---- the answer

module _ (ws : List ℕ) where
  pub sized_refused : (number place : ℕ) → refused number place ≡ read_of ws → refused_figure number place ≡ sizing_of ws
  unfolding sizing_of
  sized_refused number place q = rw (← q)

  pub sized_accepted : (w u r : ℕ) → accepted ≡ read_of ws → w ≡ value_at ws 0 → u ≡ value_at ws 1 → r ≡ min MOST_FIGURE (sum_to u (next_power w))
      → gives r ≡ sizing_of ws
  unfolding sizing_of space_bound problem_of
  sized_accepted w u r q ew eu is = rw (← q, is, ew, eu)
