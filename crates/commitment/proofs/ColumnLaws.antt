-- A table of 16 places filled one by one: what it holds so far.
-- Assumes nothing.
use Prim.Native.Nat.{ℕ, ◌+◌, ◌*◌, ◌-◌, ◌^◌, ◌≤◌, ◌<◌}
use mathlib.Core.Path.{◌≡◌, subst}
use mathlib.Core.List.{List}
use native.Mathlib.Nat.{pow-suc}
use native.Mathlib.Numerals.{add-one}
use native.Mathlib.Omega.{arith}
use lib.ListN.{length, set}
use lib.Pow.{pow_mono}
use Rattle.sums.specs.NumSet.{power}
use Rattle.sums.specs.Table.{entry}
use Rattle.sums.proofs.LoopLaws.{place_next}
use Rattle.instance.specs.declared.file.File.{File}
use Rattle.instance.specs.File.{problem}
use Rattle.commitment.specs.Score.{scored, weight_of, Column}

-- nothing yet
pub column_start : (f : ℕ → ℕ) (xs : List ℕ) → Column 0 f xs
column_start f xs = record { holds = λ i l. absurd (omega arith) }

module _ (file : File) (xs : List ℕ) (k v : ℕ) (long : length xs ≡ 16) (h : k < file.layout.units) where
  -- one more place
  pub column_next : (g : ℕ → ℕ) → Column k g xs → v ≡ g k → Column (k + 1) g (set xs k v)
  unfolding entry
  column_next g c e = record { holds = place_next (λ (i x : ℕ). x ≡ g i) xs k v (omega (arith, file.filed.units_most)) e c.holds }

-- all of them
pub column_ended : (f : ℕ → ℕ) (xs : List ℕ) (k n : ℕ) → Column k f xs → k ≤ n → n ≤ k → Column n f xs
column_ended f xs k n c l m = let e : k ≡ n = omega arith in subst (λ (z : ℕ). Column z f xs) e c

-- ---- the numbers of single units

-- the first
pub number_start : 1 ≡ power 0
unfolding power
number_start = omega arith

-- the next
pub number_next : (k a r : ℕ) → a ≡ power k → r ≡ a * 2 → r ≡ power (k + 1)
unfolding power
number_next k a r e t = rw (add-one, pow-suc) (omega arith)

-- none above that of the 16th
pub number_most : (file : File) (k a : ℕ) → k < file.layout.units → a ≡ power k → a ≤ 32768
unfolding power
number_most file k a h e =
    let s : k ≤ 15 = omega (arith, file.filed.units_most) in
    let m : 2 ^ k ≤ 2 ^ 15 = pow_mono s in
    omega arith

-- one more weight, as the code makes it
pub weight_next : (file : File) (xs : List ℕ) (t k c o a v : ℕ) → length xs ≡ 16 → k < file.layout.units
    → Column k (weight_of (problem file) t) xs → c ≡ (problem file).running t k → o ≡ (problem file).off t k → a ≡ power k → v ≡ scored (c - o) a
    → Column (k + 1) (weight_of (problem file) t) (set xs k v)
unfolding weight_of
weight_next file xs t k c o a v long h m e d n is = column_next file xs k v long h (weight_of (problem file) t) m (rw (← e, ← d, ← n) is)
