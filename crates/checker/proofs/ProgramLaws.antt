-- The judge's program: from a file's bytes to the judgement.
-- Assumes nothing.
use Prim.Native.Nat.{ℕ, ◌-◌, ◌/◌, ◌%◌, ◌≤◌, ◌<◌}
use mathlib.Core.Path.{◌≡◌, refl, sym, ◌∙◌, ap}
use mathlib.Core.Bool.{Bool, true, false}
use mathlib.Core.List.{List}
use native.Mathlib.Omega.{arith}
use lib.ListN.{length, take, drop, length-drop}
use lib.Seq.{take_all, length-take-le}
use lib.Dec.{leb, eqb}
use borrow.Author.Tests.{le-leb, lt-leb}
use Rattle.sums.specs.Logic.{if}
use Rattle.model.specs.Bytes.{words_to, bytes_verdict, load_of, loaded_into, file_end}
use Rattle.model.specs.Verdict as model
use Rattle.model.specs.Judgement as judging
use Rattle.input.proofs.LoadedLaws.{load_refused, load_accepted, load_front}

-- ---- the file's bytes as words

module _ (fs : List ℕ) (short : length fs ≤ 32768) (g : List ℕ) where
  -- 8,192 words are enough
  enough : leb (length fs / 4) 8192 ≡ true
  enough = le-leb (length fs / 4) 8192 (omega arith)

  bytes_verdict_lem : judging.judge_bytes fs g ≡ judging.judged (bytes_verdict (length fs) 8192) (judging.judge_of (words_to fs (length fs / 4)) g)
  unfolding judging.judge_bytes bytes_verdict
  bytes_verdict_lem = go (eqb (length fs % 4) 0)
    where
      go : (b : Bool) → if b (judging.judge_of (words_to fs (length fs / 4)) g) (judging.refused_grid 16 0) ≡ judging.judged
          (if b (if (leb (length fs / 4) 8192) model.accepted (model.refused 17 0)) (model.refused 16 0))
          (judging.judge_of (words_to fs (length fs / 4)) g)
      go true = rw enough
      go false = refl

  -- the bytes are refused
  pub bytes_refused : (number place : ℕ) → model.refused_figure number place ≡ load_of fs 8192 → judging.refused_grid number place ≡ judging.judge_bytes fs g
  bytes_refused number place q = sym (bytes_verdict_lem ∙ rw (load_refused fs 8192 number place q))

  -- the words loaded are the file
  pub bytes_judged : (n : ℕ) (words ws front : List ℕ) (j : judging.Judgement) → model.gives n ≡ load_of fs 8192 → ws ≡ loaded_into (model.gives n) fs words
      → front ≡ take n ws → j ≡ judging.judge_of front g → j ≡ judging.judge_bytes fs g
  bytes_judged n words ws front j q left cut e =
      e ∙ ap (λ (x : List ℕ). judging.judge_of x g) (load_front fs 8192 n q words ws front left cut) ∙ sym (bytes_verdict_lem ∙ rw (load_accepted fs 8192 n q))

-- ---- the whole input

module _ (bs : List ℕ) where
  -- too long
  pub input_long : 32768 < length bs → judging.refused_grid 17 0 ≡ judging.judge_input bs
  unfolding judging.judge_input
  input_long h = simp (lt-leb (length bs) 32768 h)

  -- the file's bytes are as many as said
  pub file_length : (end : ℕ) → end ≤ length bs → end ≡ length (take end bs)
  file_length end h = sym (length-take-le end bs h)

  -- and no more than the input's
  pub file_short : (end : ℕ) → end ≤ length bs → length bs ≤ 32768 → length (take end bs) ≤ 32768
  file_short end h g = let n = file_length end h in omega arith

  module _ (end : ℕ) (is : end ≡ file_end bs) where
    -- short enough: the file's bytes, then the grid's
    pub input_judged : (j : judging.Judgement) → length bs ≤ 32768 → j ≡ judging.judge_bytes (take end bs) (take (length bs - end) (drop end bs))
        → j ≡ judging.judge_input bs
    unfolding judging.judge_input
    input_judged j h e = e ∙ rw (is, rest) (simp (le-leb (length bs) 32768 h))
      where
        rest : take (length bs - file_end bs) (drop (file_end bs) bs) ≡ drop (file_end bs) bs
        rest =
            let n : length (drop (file_end bs) bs) ≡ length bs - file_end bs = length-drop (file_end bs) bs in
            take_all (length bs - file_end bs) (drop (file_end bs) bs) (omega (arith, n))
