-- The block of a reply, word by word, as the code finds each.
-- Assumes nothing.
use Prim.Native.Nat.{ℕ, ◌-◌, ◌*◌, ◌≤◌, ◌<◌}
use mathlib.Core.Path.{◌≡◌, ◌∙◌, ap}
use mathlib.Core.List.{List}
use native.Mathlib.Omega.{arith}
use lib.ListN.{get_or}
use borrow.Author.Tests.{lt-ltb, le-ltb}
use Rattle.sums.specs.Logic.{if}
use Rattle.sums.specs.Range.{list_to}
use Rattle.sums.specs.Table.{entry}
use Rattle.lent.specs.Splice.{spliced}
use Rattle.model.specs.declared.Layout.{Layout}
use Rattle.search.specs.declared.Reply.{Reply}
use Rattle.shape.specs.Shape.{runs_at, mark_at, block_size}
use Rattle.block.specs.declared.Status.{Status}
use Rattle.block.specs.Block.{status_number, status_of, mark_length, block_word, put_at}

-- ---- a word of the block

module _ (u w : ℕ) (r : Reply) (q v : ℕ) where
  -- the status
  pub word_status : (s : Status) → q < 1 → s ≡ status_of r.state.found r.walked → v ≡ status_number s → v ≡ block_word u w r q
  unfolding block_word
  word_status s h e n = rw (lt-ltb q 1 h, ← e) n

  module _ (a : 1 ≤ q) where
    -- the cost
    pub word_cost : q < 2 → v ≡ if r.state.found r.state.limit.0 0 → v ≡ block_word u w r q
    unfolding block_word
    word_cost h e = rw (le-ltb q 1 a, lt-ltb q 2 h) e

    module _ (b : 2 ≤ q) where
      module _ (runs : ℕ) (runs_are : runs ≡ runs_at u) where
        -- a start
        pub word_start : (x : ℕ) → q < runs → x ≡ entry r.state.best (q - 2) → v ≡ if r.state.found x 0 → v ≡ block_word u w r q
        unfolding block_word
        word_start x h is e = rw (le-ltb q 1 a, le-ltb q 2 b, ← runs_are, lt-ltb q runs h, ← is) e

        module _ (d : runs ≤ q) (mark : ℕ) (mark-is : mark ≡ mark_at u w) where
          -- a run
          pub word_run : q < mark → v ≡ if r.state.found (get_or r.runs (q - runs) 0) 0 → v ≡ block_word u w r q
          unfolding block_word entry
          word_run h e = rw (le-ltb q 1 a, le-ltb q 2 b, ← mark-is, ← runs_are, le-ltb q runs d, lt-ltb q mark h) e

          module _ (f : mark ≤ q) (n : ℕ) (g : n ≡ mark_length r.walked) where
            -- a start of the mark
            pub word_mark : q - mark < n → v ≡ entry r.state.mark (q - mark) → v ≡ block_word u w r q
            unfolding block_word
            word_mark h e =
                rw (le-ltb q 1 a, le-ltb q 2 b, ← mark-is, ← runs_are, le-ltb q runs d, le-ltb q mark f, ← g, lt-ltb (q - mark) n h) e

            -- a start that the mark lacks
            pub word_none : n ≤ q - mark → v ≡ 0 → v ≡ block_word u w r q
            unfolding block_word
            word_none h e =
                rw (le-ltb q 1 a, le-ltb q 2 b, ← mark-is, ← runs_are, le-ltb q runs d, le-ltb q mark f, ← g, le-ltb (q - mark) n h) e

-- ---- the words written so far

-- all of them, in a block of so many words
pub block_ended : (f : ℕ → ℕ) (at : ℕ) (d xs : List ℕ) (k n size : ℕ) → xs ≡ spliced at (list_to k f) d → k ≤ n → n ≤ k → n ≡ size
    → xs ≡ spliced at (list_to size f) d
block_ended f at d xs k n size e h m is = let o : k ≡ size = omega arith in rw o at e

-- ---- the place of a block

-- the block there
pub block_put : (l : Layout) (k size : ℕ) (r : Reply) (d xs : List ℕ) → size ≡ block_size l.units l.weeks
    → xs ≡ spliced (k * size) (list_to (block_size l.units l.weeks) (block_word l.units l.weeks r)) d → xs ≡ put_at l k r d
unfolding put_at
block_put l k size r d xs is e =
    e ∙ ap (λ (n : ℕ). spliced (k * n) (list_to (block_size l.units l.weeks) (block_word l.units l.weeks r)) d) is
