-- The table of costs: what stands in each row, and a row filled place by place.
-- Assumes nothing.
use Prim.Native.Nat.{ℕ, ◌+◌, ◌*◌, ◌<◌}
use mathlib.Core.Path.{◌≡◌, refl, ◌∙◌, ap}
use mathlib.Core.Bool.{Bool, true, false}
use mathlib.Core.List.{List}
use native.Mathlib.Omega.{arith}
use lib.ListN.{set, replicate, length-set}
use lib.Seq.{get_or-set_other}
use Rattle.sums.specs.NumSet.{NumSet}
use Rattle.sums.proofs.LoopLaws.{zeros_at, place_next}
use Rattle.model.specs.Problem.{Problem}
use Rattle.states.specs.Weeks.{SCALE, place_cap, place_on, place_off, place_out, PlacedTo}

-- ---- one unit

module _ (p : Problem) (u : ℕ → ℕ → ℕ) (t : ℕ) (a : NumSet) (i : ℕ) (b : Bool) (is : b ≡ a i) where
  pub cap_gone : b ≡ true → 0 ≡ place_cap p t a i
  unfolding place_cap
  cap_gone e = rw (← is, e)

  pub cap_here : (r : ℕ) → b ≡ false → r ≡ p.capacity t i → r ≡ place_cap p t a i
  unfolding place_cap
  cap_here r e h = rw (← is, e) h

  pub on_gone : (c : ℕ) → b ≡ true → c ≡ p.off t i → c * SCALE ≡ place_on p u t a i
  unfolding place_on
  on_gone c e h = rw (← is, e) (ap (λ (n : ℕ). n * SCALE) h)

  pub on_here : (c v r : ℕ) → b ≡ false → c ≡ p.running t i → v ≡ u t i → r ≡ c + v → r * SCALE ≡ place_on p u t a i
  unfolding place_on
  on_here c v r e h g s = rw (← is, e) (omega (arith, h, g, s))

  pub off_gone : (c : ℕ) → b ≡ true → c ≡ p.off t i → c * SCALE ≡ place_off p u t a i
  unfolding place_off
  off_gone c e h = rw (← is, e) (ap (λ (n : ℕ). n * SCALE) h)

  pub off_here : (c v r : ℕ) → b ≡ false → c ≡ p.off t i → v ≡ u t i → r ≡ c + v → r * SCALE ≡ place_off p u t a i
  unfolding place_off
  off_here c v r e h g s = rw (← is, e) (omega (arith, h, g, s))

pub out_is : (p : Problem) (t i c : ℕ) → c ≡ p.off t i → c * SCALE ≡ place_out p t i
unfolding place_out
out_is p t i c h = ap (λ (n : ℕ). n * SCALE) h

-- ---- a row, filled place by place

pub placed_start : (f : ℕ → ℕ) → PlacedTo f 0 (replicate 16 0)
placed_start f = record { long = refl; each = λ i l. absurd (omega arith); rest = λ i l. zeros_at 16 i }

pub placed_next : (f : ℕ → ℕ) (n v : ℕ) (xs : List ℕ) → PlacedTo f n xs → n < 16 → v ≡ f n → PlacedTo f (n + 1) (set xs n v)
placed_next f n v xs h l e = record {
  long = length-set xs n v ∙ h.long;
  each = place_next (λ i r. r ≡ f i) xs n v (omega (arith, l, h.long)) e h.each;
  rest = λ i m. get_or-set_other xs n i v 0 (λ z. omega (arith, z, m)) ∙ h.rest i (omega (arith, m));
}
