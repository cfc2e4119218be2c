-- Bytes to words: the refusals, and the words written so far.
-- Assumes nothing.
use Rattle.std.proofs.Common.{◌≡◌, ℕ, ◌+◌, ◌*◌, ◌/◌, ◌%◌, ◌<◌, ◌≤◌, List, ◌++◌, length, drop, set, refl, eq-eqb, ne_eqb, le-leb}
use borrow.Author.Tests.{lt-leb}
use Rattle.sums.proofs.LoopLaws.{list_start, list_next, list_ended}
use Rattle.model.specs.Verdict.{gives, refused_figure}
use Rattle.model.specs.Bytes.{word_from, word_at, words_to, load_of, loaded_into}

-- ---- the answer

pub load_uneven : (bs : List ℕ) (lent : ℕ) → (length bs % 4 ≡ 0 → ⊥) → refused_figure 16 0 ≡ load_of bs lent
unfolding load_of
load_uneven bs lent h = simp (ne_eqb (length bs % 4) 0 h)

pub load_short : (bs : List ℕ) (lent : ℕ) → length bs % 4 ≡ 0 → lent < length bs / 4 → refused_figure 17 0 ≡ load_of bs lent
unfolding load_of
load_short bs lent h s = simp (eq-eqb (length bs % 4) 0 h, lt-leb (length bs / 4) lent s)

pub load_all : (bs : List ℕ) (lent : ℕ) → length bs % 4 ≡ 0 → length bs / 4 ≤ lent → gives (length bs / 4) ≡ load_of bs lent
unfolding load_of
load_all bs lent h s = simp (eq-eqb (length bs % 4) 0 h, le-leb (length bs / 4) lent s)

-- ---- the lent words d

module _ (bs d : List ℕ) where
  pub words_start : d ≡ words_to bs 0 ++ drop 0 d
  unfolding words_to
  words_start = list_start (word_at bs) d

  pub words_next : (l : List ℕ) (n k v : ℕ) → l ≡ words_to bs k ++ drop k d → k < n → n ≤ length d → v ≡ word_from bs (k * 4)
      → set l k v ≡ words_to bs (k + 1) ++ drop (k + 1) d
  unfolding words_to word_at
  words_next l n k v e h m is = list_next (word_at bs) d l n k v e h m is

  pub words_ended : (l : List ℕ) (k n : ℕ) → l ≡ words_to bs k ++ drop k d → k ≤ n → n ≤ k → l ≡ loaded_into (gives n) bs d
  unfolding loaded_into words_to
  words_ended l k n e h m = list_ended (word_at bs) d l k n e h m

  -- a refused call changes nothing
  pub words_kept : (number place : ℕ) → d ≡ loaded_into (refused_figure number place) bs d
  unfolding loaded_into
  words_kept number place = refl
