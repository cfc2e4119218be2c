-- What the operations on a word do to the set it stands for: the bits of `a | b`, `a & b` and `a ^ b`, and of `1 << i`.
-- Assumes nothing.
use Prim.Native.Nat.{ℕ, zero, suc, ◌+◌, ◌-◌, ◌*◌, ◌/◌, ◌%◌, ◌^◌, ◌<◌, min, max}
use mathlib.Core.Path.{◌≡◌, refl, sym, ◌∙◌, ap, ap₂}
use mathlib.Core.Bool.{Bool, true, false, ◌&&◌, ◌||◌, not, xor}
use native.Mathlib.Nat.{mod-lt, div-eq_of_lt, mul-mod_left, zero-lt-suc, div_self, mul-div_cancel, one-mul, pow-suc}
use native.Mathlib.Decide.{dec_lt, ℕ_discrete}
use native.Mathlib.Omega.{arith}
use lib.Arith.{digits_mod}
use lib.Bits.{bit_and, bit_or, bit_xor, differ, and_shr, and_step, or_shr, or_step, xor_shr, xor_step}
use lib.Dec.{eqb, lit<}
use lib.Pow.{shl_exact, pow_pos, pow-add, pow-lt}
use borrow.Author.Tests.{eq-eqb, ne_eqb}
use Rattle.sums.specs.NumSet.{has, with, without}

-- ---- the bits of `a | b`, `a & b` and `a ^ b`

-- a digit made of two digits, and the test that says when it is 1
abbrev Makes : (ℕ → ℕ → ℕ) → (Bool → Bool → Bool) → ℕ → ℕ → Type 0
Makes digit test x y = (digit x y < 2) × (eqb (digit x y) 1 ≡ test (eqb x 1) (eqb y 1))

-- what holds of 0 and 1 holds of digits
digits_all : (P : ℕ → ℕ → Type 0) → P 0 0 → P 0 1 → P 1 0 → P 1 1 → (x y : ℕ) → x < 2 → y < 2 → P x y
digits_all P a b c d zero zero p q = a
digits_all P a b c d zero (suc zero) p q = b
digits_all P a b c d (suc zero) zero p q = c
digits_all P a b c d (suc zero) (suc zero) p q = d
digits_all P a b c d (suc (suc x)) y p q = absurd (omega arith)
digits_all P a b c d zero (suc (suc y)) p q = absurd (omega arith)
digits_all P a b c d (suc zero) (suc (suc y)) p q = absurd (omega arith)

-- an operation that goes digit by digit
module _ (op digit : ℕ → ℕ → ℕ) (test : Bool → Bool → Bool)
    (shr : (a b k : ℕ) → op a b / 2 ^ k ≡ op (a / 2 ^ k) (b / 2 ^ k))
    (step : (a b : ℕ) → op a b ≡ op (a / 2) (b / 2) * 2 + digit (a % 2) (b % 2))
    (makes : (x y : ℕ) → x < 2 → y < 2 → Makes digit test x y) where
  op_has : (a b k : ℕ) → has (op a b) k ≡ test (has a k) (has b k)
  unfolding has
  op_has a b k =
      let m = makes (a / 2 ^ k % 2) (b / 2 ^ k % 2) (mod-lt (a / 2 ^ k) (zero-lt-suc 1)) (mod-lt (b / 2 ^ k) (zero-lt-suc 1)) in
      ap (λ (x : ℕ). eqb (x % 2) 1) (shr a b k ∙ step (a / 2 ^ k) (b / 2 ^ k))
      ∙ ap (λ (x : ℕ). eqb x 1) (digits_mod _ m.0) ∙ m.1

-- the members of either
pub or_has : (a b k : ℕ) → has (bit_or a b) k ≡ (has a k || has b k)
or_has =
    op_has bit_or max ◌||◌ or_shr or_step
    (digits_all (Makes max ◌||◌) (lit< tt, refl) (lit< tt, refl) (lit< tt, refl) (lit< tt, refl))

-- the members of both
pub and_has : (a b k : ℕ) → has (bit_and a b) k ≡ (has a k && has b k)
and_has =
    op_has bit_and min ◌&&◌ and_shr and_step
    (digits_all (Makes min ◌&&◌) (lit< tt, refl) (lit< tt, refl) (lit< tt, refl) (lit< tt, refl))

-- the members of one alone
xor_has : (a b k : ℕ) → has (bit_xor a b) k ≡ xor (has a k) (has b k)
unfolding xor
xor_has =
    op_has bit_xor differ xor xor_shr xor_step
    (digits_all (Makes differ xor) (lit< tt, refl) (lit< tt, refl) (lit< tt, refl) (lit< tt, refl))

-- ---- the bits of `1 << i`

-- a bit above the one at i
pow_above : (i k : ℕ) → i < k → 2 ^ i / 2 ^ k % 2 ≡ 0
pow_above i k h = ap (λ (x : ℕ). x % 2) (div-eq_of_lt (pow-lt h))

-- a bit d + 1 below it
pow_below : (d k : ℕ) → 2 ^ (suc d + k) / 2 ^ k % 2 ≡ 0
pow_below d k =
    ap (λ (x : ℕ). x / 2 ^ k % 2) (pow-add 2 (suc d) k)
    ∙ ap (λ (x : ℕ). x % 2) (mul-div_cancel (2 ^ suc d) (pow_pos k))
    ∙ ap (λ (x : ℕ). x % 2) (pow-suc 2 d) ∙ mul-mod_left (2 ^ d) 2

pow_other : (i k : ℕ) → (k ≡ i → ⊥) → 2 ^ i / 2 ^ k % 2 ≡ 0
pow_other i k ne = go (dec_lt i k)
  where
    go : Dec (i < k) → 2 ^ i / 2 ^ k % 2 ≡ 0
    go (yes h) = pow_above i k h
    go (no h) =
        let e : i ≡ suc (i - suc k) + k = omega arith in
        ap (λ (x : ℕ). 2 ^ x / 2 ^ k % 2) e ∙ pow_below (i - suc k) k

-- i alone
pow_has : (i k : ℕ) → has (2 ^ i) k ≡ eqb k i
unfolding has
pow_has i k = go (ℕ_discrete k i)
  where
    go : Dec (k ≡ i) → eqb (2 ^ i / 2 ^ k % 2) 1 ≡ eqb k i
    go (yes e) = rw e (ap (λ (x : ℕ). eqb (x % 2) 1) (div_self (pow_pos i)) ∙ sym (eq-eqb i i refl))
    go (no n) = ap (λ (x : ℕ). eqb x 1) (pow_other i k n) ∙ sym (ne_eqb k i n)

-- the sum that the machine makes of `1 << i`
shl_one : (i : ℕ) → i < 32 → 1 * 2 ^ i % 4294967296 ≡ 2 ^ i
shl_one i h = shl_exact {a = 1} 1 i 32 (lit< tt) (omega arith) ∙ one-mul (2 ^ i)

-- a set with unit i added, as the code makes it
pub with_has : (set i : ℕ) → i < 32 → (k : ℕ) → has (bit_or set (1 * 2 ^ i % 4294967296)) k ≡ with (has set) i k
with_has set i h k = ap (λ (x : ℕ). has (bit_or set x) k) (shl_one i h) ∙ or_has set (2 ^ i) k ∙ ap (λ (b : Bool). has set k || b) (pow_has i k)

-- added, then flipped
cleared : (a b : Bool) → xor (a || b) b ≡ (a && not b)
unfolding xor
cleared true true = refl
cleared true false = refl
cleared false true = refl
cleared false false = refl

-- a set without unit i, as the code makes it
pub without_has : (set i : ℕ) → i < 32 → (k : ℕ)
    → has (bit_xor (bit_or set (1 * 2 ^ i % 4294967296)) (1 * 2 ^ i % 4294967296)) k ≡ without (has set) i k
without_has set i h k =
    ap (λ (x : ℕ). has (bit_xor (bit_or set x) x) k) (shl_one i h) ∙ xor_has (bit_or set (2 ^ i)) (2 ^ i) k
    ∙ ap₂ xor (or_has set (2 ^ i) k ∙ ap (λ (b : Bool). has set k || b) (pow_has i k)) (pow_has i k) ∙ cleared (has set k) (eqb k i)
