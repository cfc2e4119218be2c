-- Words set to 0 one after the other: none yet, one more, all of them.
-- Assumes nothing.
use Prim.Native.Nat.{ℕ, ◌+◌, ◌≤◌, ◌<◌}
use mathlib.Core.Path.{◌≡◌, refl, sym, ◌∙◌}
use mathlib.Core.List.{List}
use native.Mathlib.Omega.{arith}
use lib.ListN.{length, get_or, set, replicate, length-replicate}
use lib.Seq.{ext_get_or}
use Rattle.sums.proofs.LoopLaws.{zeros_at, place_next}

-- the words below k are 0
pub record EmptyTo (k : ℕ) (words : List ℕ) : Type 0 where
  pub zeros : (j : ℕ) → j < k → get_or words j 0 ≡ 0

-- none yet
pub empty_start : (words : List ℕ) → EmptyTo 0 words
empty_start words = record { zeros = λ j l. absurd (omega arith) }

-- one more
pub empty_next : (words : List ℕ) (k n : ℕ) → EmptyTo k words → k < n → length words ≡ n → EmptyTo (k + 1) (set words k 0)
empty_next words k n h l e = record { zeros = place_next (λ (i x : ℕ). x ≡ 0) words k 0 (omega arith) refl h.zeros }

-- all of them
pub empty_ended : (words lent : List ℕ) (k n : ℕ) → EmptyTo k words → n ≤ k → length words ≡ n → length lent ≡ n → words ≡ replicate (length lent) 0
empty_ended words lent k n h l e q =
    let z : length words ≡ length (replicate {A = ℕ} (length lent) 0) = omega (arith, length-replicate {A = ℕ} (length lent) 0) in
    ext_get_or 0 words (replicate (length lent) 0) z (λ j b. h.zeros j (omega arith) ∙ sym (zeros_at (length lent) j))
