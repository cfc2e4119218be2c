-- Words written into a lent list from a place on: none, one, more behind them; listed by a function.
-- Assumes nothing.
use Prim.Native.Nat.{ℕ, suc, ◌+◌, ◌≤◌, ◌<◌}
use mathlib.Core.Path.{◌≡◌, sym, ◌∙◌, ap}
use mathlib.Core.List.{List, [], ◌∷◌, ◌++◌, append-nil, append_assoc}
use native.Mathlib.Nat.{add-zero}
use native.Mathlib.Numerals.{add-one}
use native.Mathlib.Omega.{arith}
use lib.ListN.{length, take, drop, set, length-append, length-drop, take-append-drop}
use lib.Seq.{length-take-le, append_snoc, set_split, take_at, drop-append-add, drop-drop}
use Rattle.sums.specs.Range.{list_to}
use Rattle.sums.proofs.RangeLaws.{list_length}
use Rattle.lent.specs.Splice.{spliced}

-- none
pub splice_none : (at : ℕ) (d : List ℕ) → d ≡ spliced at [] d
unfolding spliced
splice_none at d =
    sym (ap (λ (k : ℕ). take at d ++ [] ++ drop k d) (add-zero at)
    ∙ ap (λ (l : List ℕ). l ++ drop at d) (append-nil (take at d))
    ∙ take-append-drop at d)

-- one
pub splice_one : (at x : ℕ) (d : List ℕ) → at < length d → set d at x ≡ spliced at (x ∷ []) d
unfolding spliced
splice_one at x d l =
    set_split d at x l ∙ sym (append_snoc (take at d) x (drop (suc at) d)) ∙ ap (λ (k : ℕ). take at d ++ (x ∷ []) ++ drop k d) (sym (add-one at))

-- some, and more behind them
pub splice_behind : (at n : ℕ) (ws vs d : List ℕ) → at ≤ length d → n ≡ at + length ws → spliced n vs (spliced at ws d) ≡ spliced at (ws ++ vs) d
unfolding spliced
splice_behind at n ws vs d l e =
    ap (λ (l : List ℕ). l ++ vs ++ drop (n + length vs) (front ++ rest)) (take_at front rest n long)
    ∙ ap (λ (l : List ℕ). front ++ vs ++ l) beyond
    ∙ ap (λ (l : List ℕ). l ++ drop (at + length (ws ++ vs)) d) (append_assoc (take at d) ws vs)
  where
    front : List ℕ
    front = take at d ++ ws

    rest : List ℕ
    rest = drop (at + length ws) d

    long : length front ≡ n
    long = omega (arith, length-append (take at d) ws, length-take-le at d l)

    beyond : drop (n + length vs) (front ++ rest) ≡ drop (at + length (ws ++ vs)) d
    beyond =
        let q : at + length ws + length vs ≡ at + length (ws ++ vs) = omega (arith, length-append ws vs) in
        ap (λ (k : ℕ). drop (k + length vs) (front ++ rest)) (sym long)
        ∙ drop-append-add front rest (length vs)
        ∙ drop-drop (length vs) (at + length ws) d
        ∙ ap (λ (k : ℕ). drop k d) q

-- the list stays as long
pub splice_length : (at : ℕ) (ws d : List ℕ) → at + length ws ≤ length d → length (spliced at ws d) ≡ length d
unfolding spliced
splice_length at ws d l =
    let h : at ≤ length d = omega arith in
    let n = length-append (take at d ++ ws) (drop (at + length ws) d) in
    omega (arith, n, length-append (take at d) ws, length-take-le at d h, length-drop (at + length ws) d)

-- ---- words listed by a function

-- none yet
pub splice_start : (f : ℕ → ℕ) (at : ℕ) (d : List ℕ) → d ≡ spliced at (list_to 0 f) d
unfolding list_to
splice_start f at d = splice_none at d

-- one more
pub splice_next : (f : ℕ → ℕ) (at q v n : ℕ) (d l : List ℕ) → l ≡ spliced at (list_to q f) d → q < n → at + n ≤ length d → v ≡ f q
    → set l (at + q) v ≡ spliced at (list_to (q + 1) f) d
unfolding list_to
splice_next f at q v n d l e h room is =
    let few : at + length (list_to q f) ≤ length d = omega (arith, list_length q f) in
    let here : at + q < length l = omega (arith, ap length e, splice_length at (list_to q f) d few) in
    let low : at ≤ length d = omega arith in
    let seam : at + q ≡ at + length (list_to q f) = omega (arith, list_length q f) in
    splice_one (at + q) v l here
    ∙ ap (spliced (at + q) (v ∷ [])) e
    ∙ splice_behind at (at + q) (list_to q f) (v ∷ []) d low seam
    ∙ ap (λ (x : ℕ). spliced at (list_to q f ++ (x ∷ [])) d) is
    ∙ ap (λ (k : ℕ). spliced at (list_to k f) d) (sym (add-one q))
