-- A program's bytes loaded into words of its own: the words at the front are those of the bytes, or the bytes are refused.
-- Assumes nothing.
use Prim.Native.Nat.{ℕ, ◌/◌}
use mathlib.Core.Path.{◌≡◌, refl, sym, ◌∙◌, ap}
use mathlib.Core.List.{List}
use native.Mathlib.Omega.{arith}
use lib.ListN.{length, take, drop}
use lib.Seq.{take_at}
use Rattle.sums.proofs.RangeLaws.{list_length}
use Rattle.model.specs.Bytes.{word_at, words_to, bytes_verdict, load_of, loaded_into}
use Rattle.model.specs.Verdict as model

-- a reply is no refusal
given_not : {A : Type 0} {n number place : ℕ} → model.gives n ≡ model.refused_figure number place → A
given_not e = let z : ◌≡◌ {A = ℕ} 0 1 = cc in absurd (omega arith)

-- a reply by a verdict gives its number, or refuses by it
with_given : (v : model.Verdict) (m n : ℕ) → model.gives n ≡ model.figure_with v m → (v ≡ model.accepted) × (n ≡ m)
unfolding model.figure_with
with_given model.accepted m n e = (refl, ap number e)
  where
    number : model.Figure → ℕ
    number (model.gives k) = k
    number (model.refused_figure k place) = k
with_given (model.refused number place) m n e = given_not e

with_refused : (v : model.Verdict) (m number place : ℕ) → model.refused_figure number place ≡ model.figure_with v m → v ≡ model.refused number place
unfolding model.figure_with
with_refused model.accepted m number place e = given_not (sym e)
with_refused (model.refused k q) m number place e = ap verdict (sym e)
  where
    verdict : model.Figure → model.Verdict
    verdict (model.gives n) = model.accepted
    verdict (model.refused_figure n at) = model.refused n at

module _ (bs : List ℕ) (lent : ℕ) where
  -- refused
  pub load_refused : (number place : ℕ) → model.refused_figure number place ≡ load_of bs lent → bytes_verdict (length bs) lent ≡ model.refused number place
  unfolding load_of
  load_refused number place q = with_refused (bytes_verdict (length bs) lent) (length bs / 4) number place q

  module _ (n : ℕ) (given : model.gives n ≡ load_of bs lent) where
    passed : (bytes_verdict (length bs) lent ≡ model.accepted) × (n ≡ length bs / 4)
    unfolding load_of
    passed = with_given (bytes_verdict (length bs) lent) (length bs / 4) n given

    -- loaded
    pub load_accepted : bytes_verdict (length bs) lent ≡ model.accepted
    load_accepted = passed.0

    -- the words at the front are those of the bytes
    pub load_front : (words ws front : List ℕ) → ws ≡ loaded_into (model.gives n) bs words → front ≡ take n ws → front ≡ words_to bs (length bs / 4)
    unfolding loaded_into words_to
    load_front words ws front left cut =
        cut ∙ ap (take n) left ∙ take_at (words_to bs n) (drop n words) n (list_length n (word_at bs)) ∙ ap (words_to bs) passed.1
