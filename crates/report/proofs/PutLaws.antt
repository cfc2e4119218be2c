-- Text put into lent bytes: nothing, a byte, bytes one after another, one text behind another; digits.
-- Assumes nothing.
use Prim.Native.Nat.{ℕ, zero, suc, ◌+◌, ◌-◌, ◌*◌, ◌/◌, ◌%◌, ◌≤◌, ◌<◌}
use mathlib.Core.Path.{◌≡◌, refl, sym, ◌∙◌, ap, subst}
use mathlib.Core.List.{List, [], ◌∷◌, ◌++◌}
use Rattle.std.proofs.Common.{append_assoc}
use native.Mathlib.Numerals.{add-one}
use native.Mathlib.Omega.{arith}
use lib.ListN.{length, get_or, take, drop, set, length-append}
use borrow.Rule.Slice.PartMut.{put_mid}
use lib.Seq.{drop-drop, length-take-le, take_at, drop_at}
use borrow.Author.Tests.{lt-ltb, le-ltb}
use Rattle.lent.specs.Splice.{spliced}
use Rattle.lent.proofs.SpliceLaws.{splice_none, splice_one, splice_behind}
use Rattle.model.specs.Lines.{digits_to, number_text, words_text, Written}
use Rattle.report.specs.Put.{Put}

-- ---- pieces

-- nothing
pub put_nothing : (d : List ℕ) (at : ℕ) → Put d d at at 0 []
put_nothing d at = record { bytes = splice_none at d; end = omega arith; short = omega arith }

-- a byte
pub put_one : (d : List ℕ) (at b : ℕ) → at < length d → Put d (set d at b) at (at + 1) 1 (b ∷ [])
put_one d at b l = record { bytes = splice_one at b d l; end = refl; short = omega arith }

-- one text behind another
pub put_join : (d d' d'' : List ℕ) (at k r m n : ℕ) (ws vs : List ℕ) → at ≤ length d → Put d d' at k m ws → Put d' d'' k r n vs
    → Put d d'' at r (m + n) (ws ++ vs)
put_join d d' d'' at k r m n ws vs l f g = record {
  bytes = g.bytes ∙ ap (spliced k vs) f.bytes ∙ splice_behind at k ws vs d l f.end;
  end = omega (arith, f.end, g.end, length-append ws vs);
  short = omega (arith, f.short, g.short, length-append ws vs);
}

-- a longer bound
pub put_most : (d d' : List ℕ) (at r m n : ℕ) (ws : List ℕ) → Put d d' at r m ws → m ≤ n → Put d d' at r n ws
put_most d d' at r m n ws h l = record { bytes = h.bytes; end = h.end; short = omega (arith, h.short) }

-- a text from the first place on, which there is room for, is written there
pub put_written : (d d' : List ℕ) (r m : ℕ) (ws : List ℕ) → Put d d' 0 r m ws → m ≤ length d → length d' ≡ length d → Written ws d d' r
unfolding spliced
put_written d d' r m ws h room same =
    let n : length ws ≡ r = omega (arith, h.end) in
    let e : 0 + length ws ≡ r = omega arith in
    record {
      inside = omega (arith, h.end, h.short);
      front = ap (take r) h.bytes ∙ take_at ws (drop (0 + length ws) d) r n;
      kept = ap (drop r) h.bytes ∙ drop_at ws (drop (0 + length ws) d) r n ∙ ap (λ (k : ℕ). drop k d) e;
    }

-- what is written has as many bytes as are said
pub written_length : (shown d d' : List ℕ) (r : ℕ) → Written shown d d' r → r ≡ length (take r d')
written_length shown d d' r h = sym (length-take-le r d' h.inside)

-- ---- digits

-- none
pub digits_none : (d : List ℕ) (at x n : ℕ) → n ≡ 0 → Put d d at at n (digits_to n x)
unfolding digits_to
digits_none d at x n e = rw e (put_nothing d at)

-- a single one
pub digits_last : (d d' : List ℕ) (at x n r b : ℕ) → (n ≡ 0 → ⊥) → x < 10 → b ≡ 48 + x % 10 → Put d d' at r 1 (b ∷ [])
    → Put d d' at r n (digits_to n x)
unfolding digits_to
digits_last d d' at x zero r b some l is h = absurd (some refl)
digits_last d d' at x (suc n) r b some l is h =
    let e : 48 + x ≡ b = omega arith in
    let o : 1 ≤ suc n = omega arith in
    rw (lt-ltb x 10 l, e) (put_most d d' at r 1 (suc n) (b ∷ []) h o)

-- more, and the last
pub digits_more : (d d' d'' : List ℕ) (at x n k r b : ℕ) → (n ≡ 0 → ⊥) → 10 ≤ x → b ≡ 48 + x % 10 → at + n ≤ length d
    → Put d d' at k (n - 1) (digits_to (n - 1) (x / 10)) → Put d' d'' k r 1 (b ∷ []) → Put d d'' at r n (digits_to n x)
unfolding digits_to
digits_more d d' d'' at x zero k r b some l is room f g = absurd (some refl)
digits_more d d' d'' at x (suc n) k r b some l is room f g =
    let e : suc n - 1 ≡ n = omega arith in
    let o : n + 1 ≡ suc n = omega arith in
    let low : at ≤ length d = omega arith in
    let h : Put d d' at k n (digits_to n (x / 10)) = rw e at f in
    rw (le-ltb x 10 l, ← is)
    (subst (λ (m : ℕ). Put d d'' at r m (digits_to n (x / 10) ++ (b ∷ []))) o (put_join d d' d'' at k r n 1 (digits_to n (x / 10)) (b ∷ []) low h g))

-- there is room for the last
pub digits_room : (d d' ds : List ℕ) (at n k : ℕ) → (n ≡ 0 → ⊥) → at + n ≤ length d → length d' ≡ length d → Put d d' at k (n - 1) ds → k < length d'
digits_room d d' ds at n k some room same h = omega (arith, h.end, h.short, some)

-- a space and digits
pub number_put : (d d' d'' : List ℕ) (at x k r : ℕ) → at + 21 ≤ length d → Put d d' at k 1 (32 ∷ []) → Put d' d'' k r 20 (digits_to 20 x)
    → Put d d'' at r 21 (number_text x)
unfolding number_text
number_put d d' d'' at x k r room f g =
    let low : at ≤ length d = omega arith in
    put_join d d' d'' at k r 1 20 (32 ∷ []) (digits_to 20 x) low f g

-- ---- bytes as they are

-- several, written over as many
pub put_over : (d s e : List ℕ) (at : ℕ) → at + length s ≤ length d → e ≡ s → Put d (put_mid at (at + length s - at) d e) at (at + length s) (length s) s
unfolding spliced
put_over d s e at room same =
    let seam : at + (at + length s - at) ≡ at + length s = omega arith in
    let rest = drop-drop (at + length s - at) at d ∙ ap (λ (n : ℕ). drop n d) seam in
    record { bytes = rw same (ap (λ (r : List ℕ). take at d ++ (s ++ r)) rest ∙ sym (append_assoc (take at d) s (drop (at + length s) d))); end = refl; short = omega arith }

-- ---- words

-- none yet
pub words_start : (d ws : List ℕ) (at place : ℕ) → Put d d at at (21 * 0) (words_text ws place 0)
unfolding words_text
words_start d ws at place = put_nothing d at

-- there is room for one more
pub words_room : (d l ws : List ℕ) (at place i n k : ℕ) → Put d l at k (21 * i) (words_text ws place i) → i < n → at + 21 * n ≤ length d
    → length l ≡ length d → k + 21 ≤ length l
words_room d l ws at place i n k h less room same = omega (arith, h.end, h.short)

-- one more
pub words_next : (d l l' ws : List ℕ) (at place i n k r x : ℕ) → Put d l at k (21 * i) (words_text ws place i) → at + 21 * n ≤ length d
    → x ≡ get_or ws (place + i) 0 → Put l l' k r 21 (number_text x) → Put d l' at r (21 * (i + 1)) (words_text ws place (i + 1))
unfolding words_text
words_next d l l' ws at place i n k r x f room is g =
    let low : at ≤ length d = omega arith in
    let more : 21 * i + 21 ≡ 21 * suc i = omega arith in
    let h : Put d l' at r (21 * i + 21) (words_text ws place i ++ number_text (get_or ws (place + i) 0)) =
    put_join d l l' at k r (21 * i) 21 (words_text ws place i) (number_text (get_or ws (place + i) 0)) low f (rw is at g) in
    rw (add-one i) (subst (λ (m : ℕ). Put d l' at r m (words_text ws place i ++ number_text (get_or ws (place + i) 0))) more h)

-- all of them
pub words_ended : (d l ws : List ℕ) (at place i n k : ℕ) → Put d l at k (21 * i) (words_text ws place i) → i ≤ n → n ≤ i
    → Put d l at k (21 * n) (words_text ws place n)
words_ended d l ws at place i n k h a b = let e : i ≡ n = omega arith in rw e at h
