-- Where a program's file ends: the search for its end word, a word at a time; and the front of a list of words.
-- Assumes nothing.
use Prim.Native.Nat.{ℕ, ◌+◌, ◌*◌, ◌-◌, ◌/◌, ◌≤◌, ◌<◌, min}
use mathlib.Core.Path.{◌≡◌, refl, sym, ◌∙◌, ap}
use mathlib.Core.Bool.{false}
use mathlib.Core.List.{List}
use mathlib.Core.Logic.{⊎_elim}
use native.Mathlib.Omega.{arith}
use lib.ListN.{length, take, drop, length-drop}
use lib.Seq.{take_all, length-take-le, ext_get_or}
use borrow.Author.Tests.{eq-eqb, ne_eqb}
use Rattle.sums.proofs.LogicLaws.{lt_or_ge}
use Rattle.sums.specs.Range.{some_to}
use Rattle.sums.proofs.RangeLaws.{some_of, first_here}
use Rattle.sums.proofs.LoopLaws.{some_next, some_ended}
use Rattle.model.specs.Words.{kind_of}
use Rattle.model.specs.Bytes.{word_from, word_at, is_end, file_end}

-- no word yet
pub end_start : (bs : List ℕ) → some_to 0 (is_end bs) ≡ false
unfolding some_to
end_start bs = refl

-- one more word of another kind
pub end_next : (bs : List ℕ) (k word kind : ℕ) → some_to k (is_end bs) ≡ false → word ≡ word_from bs (k * 4) → kind ≡ kind_of word
    → (kind ≡ 15 → ⊥) → some_to (k + 1) (is_end bs) ≡ false
unfolding is_end word_at
end_next bs k word kind clear w is e =
    let here = ne_eqb (kind_of (word_from bs (k * 4))) 15 (λ q. e (is ∙ ap kind_of w ∙ q)) in
    sym (some_next (is_end bs) k false false (sym clear) (rw here))

module _ (bs : List ℕ) (k : ℕ) (clear : some_to k (is_end bs) ≡ false) where
  -- the end word, after words of other kinds
  pub end_here : (word kind : ℕ) → word ≡ word_from bs (k * 4) → kind ≡ kind_of word → kind ≡ 15 → k < length bs / 4 → k * 4 + 4 ≡ file_end bs
  unfolding file_end is_end word_at
  end_here word kind w is e h =
      let here = eq-eqb (kind_of (word_from bs (k * 4))) 15 (sym (is ∙ ap kind_of w) ∙ e) in
      rw (some_of (length bs / 4) (is_end bs) k h here, first_here (length bs / 4) (is_end bs) k clear here h)

  -- no word is the end word
  pub end_none : k ≤ length bs / 4 → length bs / 4 ≤ k → length bs ≡ file_end bs
  unfolding file_end
  end_none h g = rw (← (some_ended (is_end bs) k (length bs / 4) false h g (sym clear)))

-- ---- the first n words, and the rest, cut at m words

-- nothing is left behind the last word
pub none_left : (ws : List ℕ) (n : ℕ) → length ws ≤ n → take (length ws - length ws) (drop (length ws) ws) ≡ drop n ws
none_left ws n h =
    ext_get_or 0 (take (length ws - length ws) (drop (length ws) ws)) (drop n ws)
    (omega (arith, length-take-le (length ws - length ws) (drop (length ws) ws) (omega arith), length-drop n ws))
    (λ i l. absurd (omega (arith, length-take-le (length ws - length ws) (drop (length ws) ws) (omega arith))))

module _ (ws : List ℕ) (n m : ℕ) (is : m ≡ min n (length ws)) where
  -- the front has m words
  pub front_length : m ≡ length (take m ws)
  front_length = sym (length-take-le m ws (omega arith))

  -- and is the first n
  pub front_is : take m ws ≡ take n ws
  front_is =
      ⊎_elim (λ (h : n < length ws). let e : m ≡ n = omega arith in rw e)
      (λ (h : length ws ≤ n). take_all m ws (omega arith) ∙ sym (take_all n ws h)) (lt_or_ge n (length ws))

  -- and the rest what is left
  pub back_is : take (length ws - m) (drop m ws) ≡ drop n ws
  back_is =
      ⊎_elim (λ (h : n < length ws). let e : m ≡ n = omega arith in rw e (take_all (length ws - n) (drop n ws) (omega (arith, length-drop n ws))))
      (λ (h : length ws ≤ n). let e : m ≡ length ws = omega arith in rw e (none_left ws n h)) (lt_or_ge n (length ws))
