-- The words of a reply's block put together: they are the block of the reply's answer.
-- Assumes nothing.
use Prim.Native.Nat.{ℕ, zero, suc, ◌+◌, ◌-◌, ◌≤◌, ◌<◌}
use mathlib.Core.Path.{◌≡◌, refl, sym, ◌∙◌, ap, ap₂}
use mathlib.Core.Bool.{Bool, true, false}
use mathlib.Core.List.{List, [], ◌∷◌, ◌++◌, append-nil, append_assoc}
use native.Mathlib.Nat.{add-zero, add-suc}
use native.Mathlib.Omega.{arith}
use lib.ListN.{length, replicate, replicate-append-replicate}
use lib.Dec.{ltb}
use borrow.Author.Tests.{lt-ltb, le-ltb}
use Rattle.sums.specs.Logic.{if}
use Rattle.sums.specs.Sum.{shifted}
use Rattle.sums.specs.Range.{list_to}
use Rattle.sums.specs.Table.{entry}
use Rattle.sums.proofs.RangeLaws.{list_length}
use Rattle.model.specs.Problem.{Problem}
use Rattle.model.specs.Answer.{Correct, zeros, padded, block_of}
use Rattle.search.specs.declared.Reply.{Reply}
use Rattle.state.specs.declared.Walked.{Walked}
use Rattle.state.specs.declared.Walked.TheVariants.{Dead, Spent}
use Rattle.search.specs.Ask.{answer_for, answer_of}
use Rattle.shape.specs.Shape.{runs_at, mark_at, block_size}
use Rattle.block.specs.Block.{status_number, status_of, mark_length, block_word}

-- ---- lists of numbers in parts

list_split : (a b : ℕ) (f : ℕ → ℕ) → list_to (a + b) f ≡ list_to a f ++ list_to b (shifted a f)
unfolding list_to shifted
list_split a zero f = ap (λ (n : ℕ). list_to n f) (add-zero a) ∙ sym (append-nil (list_to a f))
list_split a (suc b) f =
    ap (λ (n : ℕ). list_to n f) (add-suc a b)
    ∙ ap (λ (l : List ℕ). l ++ (f (a + b) ∷ [])) (list_split a b f)
    ∙ append_assoc (list_to a f) (list_to b (shifted a f)) (f (a + b) ∷ [])

list_same : (n : ℕ) (f g : ℕ → ℕ) → ((k : ℕ) → k < n → f k ≡ g k) → list_to n f ≡ list_to n g
unfolding list_to
list_same zero f g h = refl
list_same (suc n) f g h = ap₂ (λ (l : List ℕ) (v : ℕ). l ++ (v ∷ [])) (list_same n f g (λ k l. h k (omega arith))) (h n (omega arith))

list_zeros : (n : ℕ) (f : ℕ → ℕ) → ((k : ℕ) → k < n → f k ≡ 0) → list_to n f ≡ zeros n
unfolding list_to zeros
list_zeros zero f h = refl
list_zeros (suc n) f h =
    let one : n + 1 ≡ suc n = omega arith in
    ap₂ (λ (l : List ℕ) (v : ℕ). l ++ (v ∷ [])) (list_zeros n f (λ k l. h k (omega arith))) (h n (omega arith))
    ∙ replicate-append-replicate n 1 0
    ∙ ap (λ (m : ℕ). replicate m 0) one

-- a status, a cost, starts, runs, a mark
list_parts : (u w : ℕ) (f : ℕ → ℕ)
    → list_to (block_size u w) f ≡ f 0 ∷ f 1 ∷ list_to u (shifted 2 f) ++ list_to w (shifted (runs_at u) f) ++ list_to u (shifted (mark_at u w) f)
unfolding list_to
list_parts u w f =
    let size : block_size u w ≡ mark_at u w + u = omega arith in
    ap (λ (n : ℕ). list_to n f) size
    ∙ list_split (mark_at u w) u f
    ∙ ap (λ (l : List ℕ). l ++ list_to u (shifted (mark_at u w) f)) (list_split (runs_at u) w f
    ∙ ap (λ (l : List ℕ). l ++ list_to w (shifted (runs_at u) f)) (list_split 2 u f))

-- ---- a part that a status has, or 0

part_of : Bool → ℕ → (ℕ → ℕ) → List ℕ
part_of true n f = list_to n f
part_of false n f = zeros n

part_list : (b : Bool) (n : ℕ) (f g : ℕ → ℕ) → ((k : ℕ) → k < n → f k ≡ if b (g k) 0) → list_to n f ≡ part_of b n g
unfolding part_of
part_list true n f g h = list_same n f g h
part_list false n f g h = list_zeros n f h

-- a mark of m starts, its missing starts 0
mark_list : (u m : ℕ) (f g : ℕ → ℕ) → m ≤ u → ((k : ℕ) → k < u → f k ≡ if (ltb k m) (g k) 0) → list_to u f ≡ padded u (list_to m g)
unfolding padded shifted
mark_list u m f g l h =
    let all : u ≡ m + (u - m) = omega arith in
    let rest : u - m ≡ u - length (list_to m g) = omega (arith, list_length m g) in
    ap (λ (n : ℕ). list_to n f) all
    ∙ list_split m (u - m) f
    ∙ ap₂ (λ (a b : List ℕ). a ++ b)
    (list_same m f g (λ k b. h k (omega arith) ∙ (rw (lt-ltb k m b))))
    (list_zeros (u - m) (shifted m f) (λ k b. h (m + k) (omega arith) ∙ (rw (le-ltb (m + k) m (omega arith)))))
    ∙ ap (λ (n : ℕ). list_to m g ++ zeros n) rest

-- ---- the words at their places

module _ (u w : ℕ) (r : Reply) where
  word_at_cost : block_word u w r 1 ≡ if r.state.found r.state.limit.0 0
  unfolding block_word
  word_at_cost = refl

  word_at_status : block_word u w r 0 ≡ status_number (status_of r.state.found r.walked)
  unfolding block_word
  word_at_status = refl

  starts_at : (k : ℕ) → k < u → shifted 2 (block_word u w r) k ≡ if r.state.found (entry r.state.best k) 0
  unfolding block_word shifted
  starts_at k h =
      let e : 2 + k - 2 ≡ k = omega arith in
      rw (le-ltb (2 + k) 1 (omega arith), le-ltb (2 + k) 2 (omega arith), lt-ltb (2 + k) (runs_at u) (omega arith), e)

  runs_at_lem : (k : ℕ) → k < w → shifted (runs_at u) (block_word u w r) k ≡ if r.state.found (entry r.runs k) 0
  unfolding block_word shifted
  runs_at_lem k h =
      let e : runs_at u + k - runs_at u ≡ k = omega arith in
      rw (
        le-ltb (runs_at u + k) 1 (omega arith),
        le-ltb (runs_at u + k) 2 (omega arith),
        le-ltb (runs_at u + k) (runs_at u) (omega arith),
        lt-ltb (runs_at u + k) (mark_at u w) (omega arith),
        e,
      )

  mark_at_lem : (k : ℕ) → shifted (mark_at u w) (block_word u w r) k ≡ if (ltb k (mark_length r.walked)) (entry r.state.mark k) 0
  unfolding block_word shifted
  mark_at_lem k =
      let e : mark_at u w + k - mark_at u w ≡ k = omega arith in
      rw (
        le-ltb (mark_at u w + k) 1 (omega arith),
        le-ltb (mark_at u w + k) 2 (omega arith),
        le-ltb (mark_at u w + k) (runs_at u) (omega arith),
        le-ltb (mark_at u w + k) (mark_at u w) (omega arith),
        e,
      )

-- ---- the block

module _ (p : Problem) (limit : ℕ) (best mark runs : List ℕ) (ceiling budget : ℕ) where
  -- a mark is a place of the walk
  mark_within : (found : Bool) (k : Walked) → Correct p ceiling budget (answer_for p limit best mark runs found k) → mark_length k ≤ p.units
  unfolding mark_length
  mark_within true (Dead b) h = omega arith
  mark_within false (Dead b) h = omega arith
  mark_within true (Spent m) h = omega (arith, h.0.prefix.within, list_length m (entry mark))
  mark_within false (Spent m) h = omega (arith, h.0.prefix.within, list_length m (entry mark))

  no_mark : padded p.units (list_to 0 (entry mark)) ≡ zeros p.units
  unfolding padded list_to
  no_mark = let e : p.units - 0 ≡ p.units = omega arith in ap zeros e

  parts_block : (found : Bool) (k : Walked)
      → (status_number (status_of found k) ∷ if found limit 0 ∷ part_of found p.units (entry best) ++ part_of found p.weeks (entry runs)
      ++ padded p.units (list_to (mark_length k) (entry mark))) ≡ block_of p (answer_for p limit best mark runs found k)
  unfolding status_of status_number mark_length part_of block_of
  parts_block true (Dead b) =
      ap (λ (l : List ℕ). 1 ∷ limit ∷ list_to p.units (entry best) ++ list_to p.weeks (entry runs) ++ l) no_mark
  parts_block false (Dead b) = ap (λ (l : List ℕ). 2 ∷ 0 ∷ zeros p.units ++ zeros p.weeks ++ l) no_mark
  parts_block true (Spent m) = refl
  parts_block false (Spent m) = refl

-- the words of a right reply, in their order, are its answer's block
pub block_listed : (p : Problem) (ceiling budget : ℕ) (r : Reply) → Correct p ceiling budget (answer_of p r)
    → list_to (block_size p.units p.weeks) (block_word p.units p.weeks r) ≡ block_of p (answer_of p r)
block_listed p ceiling budget r h =
    let u = p.units in
    let w = p.weeks in
    let st = r.state in
    let within = mark_within p st.limit.0 st.best st.mark r.runs ceiling budget st.found r.walked h in
    rw (
      list_parts u w (block_word u w r),
      word_at_status u w r,
      word_at_cost u w r,
      part_list st.found u (shifted 2 (block_word u w r)) (entry st.best) (starts_at u w r),
      part_list st.found w (shifted (runs_at u) (block_word u w r)) (entry r.runs) (runs_at_lem u w r),
      mark_list u (mark_length r.walked) (shifted (mark_at u w) (block_word u w r)) (entry st.mark) within (λ k l. mark_at_lem u w r k),
    ) (parts_block p st.limit.0 st.best st.mark r.runs ceiling budget st.found r.walked)
