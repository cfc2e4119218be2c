-- The words of choices, unit by unit.
-- Assumes nothing.
use Prim.Native.Nat.{ℕ, zero, suc, ◌+◌, ◌≤◌}
use mathlib.Core.Path.{◌≡◌, refl, ap}
use mathlib.Core.Bool.{Bool, true, false}
use mathlib.Core.List.{List, [], ◌∷◌, ◌++◌}
use native.Mathlib.Omega.{arith}
use lib.ListN.{length, length-append}
use Rattle.std.proofs.Common.{cond, count_by}
use Rattle.std.specs.List.{range_with_len}
use Rattle.std.proofs.lemmas.List.Sums.{sum_by-cons}
use Rattle.sums.specs.Logic.{if}
use Rattle.sums.specs.NumSet.{NumSet}
use Rattle.model.specs.Nogood.{Choice, choice_words}
use Rattle.nogood.specs.Noting.{choice_of, choices_of}

-- of one list and another
pub choice_words_append : (cs ds : List Choice) → choice_words (cs ++ ds) ≡ choice_words cs ++ choice_words ds
unfolding choice_words
choice_words_append [] ds = refl
choice_words_append (c ∷ cs) ds = rw (choice_words_append cs ds)

-- one for each
pub choice_words_length : (cs : List Choice) → length (choice_words cs) ≡ length cs
unfolding choice_words
choice_words_length [] = refl
choice_words_length (c ∷ cs) = rw (choice_words_length cs)

choice_count : (starts : ℕ → ℕ) (b : NumSet) (k : ℕ) → length (choice_of starts b k) ≡ cond (b k) 1 0
unfolding choice_of
choice_count starts b k = go (b k)
  where
    go : (c : Bool) → length {A = Choice} (if c (record { unit = k; start = starts k } ∷ []) []) ≡ cond c 1 0
    go true = refl
    go false = refl

-- one unit more to look at
counted_more : (b : NumSet) (a k : ℕ) → count_by b (range_with_len a (suc k)) ≡ count_by b (range_with_len a k) + cond (b (a + k)) 1 0
counted_more b a zero = let here : a + 0 ≡ a = omega arith in rw here (omega (arith, sum_by-cons (λ x. cond {A = ℕ} (b x) 1 0) a []))
counted_more b a (suc k) =
    let one : ℕ → ℕ = λ x. cond (b x) 1 0 in
    let here : a + suc k ≡ a + 1 + k = omega arith in
    omega (arith, sum_by-cons one a (range_with_len (a + 1) (suc k)), sum_by-cons one a (range_with_len (a + 1) k), counted_more b (a + 1) k, ap one here)

-- as many as units of the set
pub choices_count : (starts : ℕ → ℕ) (b : NumSet) (k : ℕ) → length (choices_of starts b k) ≡ count_by b (range_with_len 0 k)
unfolding choices_of
choices_count starts b zero = refl
choices_count starts b (suc k) =
    let here : 0 + k ≡ k = omega arith in
    omega (
      arith,
      length-append (choices_of starts b k) (choice_of starts b k),
      choices_count starts b k,
      choice_count starts b k,
      counted_more b 0 k,
      ap {B = ℕ} (λ (x : ℕ). cond (b x) 1 0) here,
    )

-- at most one for a unit
pub choice_most : (starts : ℕ → ℕ) (b : NumSet) (k : ℕ) → length (choice_of starts b k) ≤ 1
unfolding choice_of
choice_most starts b k = go (b k)
  where
    go : (c : Bool) → length {A = Choice} (if c (record { unit = k; start = starts k } ∷ []) []) ≤ 1
    go true = omega arith
    go false = omega arith

-- so no more choices than units
pub choices_most : (starts : ℕ → ℕ) (b : NumSet) (k : ℕ) → length (choices_of starts b k) ≤ k
unfolding choices_of
choices_most starts b zero = omega arith
choices_most starts b (suc k) =
    omega (arith, length-append (choices_of starts b k) (choice_of starts b k), choices_most starts b k, choice_most starts b k)
