-- Where a file keeps its OFF costs, if it has any.
-- Assumes nothing.
use Prim.Native.Nat.{ℕ, ◌+◌, ◌*◌, ◌≤◌, ◌<◌}
use mathlib.Core.Path.{◌≡◌, sym, ◌∙◌}
use mathlib.Core.List.{List}
use native.Mathlib.Omega.{arith}
use lib.ListN.{length, get_or, get_or-eq_default}
use borrow.Author.Tests.{eq-eqb, ne_eqb}
use Rattle.model.specs.declared.Layout.{Layout}
use Rattle.model.specs.Words.{kind_of, kind_at, value_at, layout_for, off_words, layout_of}
use Rattle.instance.specs.Filed.{Filed}

-- past the end every word reads as 0
pub kind_past : (ws : List ℕ) (q : ℕ) → length ws ≤ q → 0 ≡ kind_of (get_or ws q 0)
unfolding kind_of
kind_past ws q h = rw (get_or-eq_default ws 0 h)

-- as many OFF costs as cells
pub off_some : (ws : List ℕ) (q cells k : ℕ) → k ≡ kind_at ws q → k ≡ 0 → cells ≡ off_words ws q cells
unfolding off_words
off_some ws q cells k e z = rw (eq-eqb (kind_at ws q) 0 (sym e ∙ z))

-- or none
pub off_lacks : (ws : List ℕ) (q cells k : ℕ) → k ≡ kind_at ws q → (k ≡ 0 → ⊥) → 0 ≡ off_words ws q cells
unfolding off_words
off_lacks ws q cells k e n = rw (ne_eqb (kind_at ws q) 0 (λ z. n (e ∙ z)))

-- a cell's OFF cost stands in the file
pub off_read : (ws : List ℕ) (l : Layout) (q : ℕ) → Filed ws l → l.offs < l.pairs → q < l.weeks * l.units → l.offs + q < length ws
off_read ws l q f some h = omega (arith, f.sections.full some, f.long)

-- the layout as the code makes it
pub laid_words : (ws : List ℕ) (w u cells n : ℕ) (bare r : Layout) → w ≡ value_at ws 0 → u ≡ value_at ws 1 → bare ≡ layout_for w u 0 → cells ≡ w * u
    → n ≡ off_words ws bare.offs cells → r ≡ layout_for w u n → r ≡ layout_of ws
unfolding layout_of
laid_words ws w u cells n bare r ew eu eb ec ei er = er ∙ rw (ei, eb, ec, ew, eu)
