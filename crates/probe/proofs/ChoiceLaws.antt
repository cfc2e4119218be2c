-- The unit that is placed next: one that is not placed, or none is left.
-- Assumes nothing.
use Prim.Native.Nat.{ℕ, ◌+◌, ◌≤◌, ◌<◌}
use mathlib.Core.Path.{◌≡◌, refl, sym, ◌∙◌}
use mathlib.Core.Bool.{Bool, true, false, not}
use native.Mathlib.Omega.{arith}
use borrow.Author.Count.{below_more}
use Rattle.sums.specs.NumSet.{has}
use Rattle.sums.proofs.LogicLaws.{true_false, not_at}
use Rattle.probe.specs.Probe.{Chosen}

-- the units below i are placed
pub record PlacedTo (placed i : ℕ) : Type 0 where
  pub each : (k : ℕ) → k < i → has placed k ≡ true

pub placed_start : (placed : ℕ) → PlacedTo placed 0
placed_start placed = record { each = λ k l. absurd (omega arith) }

not_off : (b : Bool) → not b ≡ false → b ≡ true
not_off true q = refl
not_off false q = true_false q

-- one more
pub placed_next : (placed i : ℕ) (r : Bool) → PlacedTo placed i → r ≡ has placed i → not r ≡ false → PlacedTo placed (i + 1)
placed_next placed i r h e f = record { each = below_more (λ k. has placed k ≡ true) i h.each (sym e ∙ not_off r f) }

-- one that is not
pub chosen_free : (units placed i : ℕ) (r : Bool) → i < units → r ≡ has placed i → not r ≡ true → Chosen units placed i
chosen_free units placed i r l e f = record { fresh = λ _. sym e ∙ not_at r f; all = λ m. absurd (omega arith) }

-- all are
pub chosen_all : (units placed i : ℕ) → PlacedTo placed i → units ≤ i → Chosen units placed units
chosen_all units placed i h l = record { fresh = λ m. absurd (omega arith); all = λ _ k m. h.each k (omega arith) }

-- another was looked at
pub chosen_other : (units placed i : ℕ) (r : Bool) → i < units → r ≡ has placed i → r ≡ false → Chosen units placed i
chosen_other units placed i r l e f = record { fresh = λ _. sym e ∙ f; all = λ m. absurd (omega arith) }
