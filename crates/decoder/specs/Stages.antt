-- The stages of a file, words of one kind in a row whose values are free within one range, and how the reader passes them.
-- Assumes nothing.
use Rattle.std.specs.Prelude.{◌≡◌, ℕ, ◌+◌, ◌-◌, ◌<◌, ◌≤◌, Bool, not, ◌&&◌, List, length, ◌==◌, nat_lt}
use Rattle.sums.specs.Logic.{if}
use Rattle.model.specs.declared.Layout.{Layout}
use Rattle.model.specs.Words.{VALUES, kind_of, value_of, kind_at, value_at}
use Rattle.model.specs.Reading.{due_at, pair_fault, fault_for, fault_at, read_from}

-- where kind k is due at place q, words of kind k and values up to most have no fault after it, up to the place next
pub record Onward (l : Layout) (q k most next : ℕ) : Type 0 where
  pub small : most < VALUES
  pub free : due_at l q ≡ k → (p prev v : ℕ) → q < p → p < next → v ≤ most → fault_for l p prev k v ≡ 0

-- the fault of a word among the pairs, at place p after a word of value prev, unless it is the end word
unfoldable pub as_pair : Layout → ℕ → ℕ → ℕ → ℕ
as_pair l p prev word = if (kind_of word == 10) (pair_fault l p prev (value_of word)) 1

-- the word at place p has no fault and is not the end word
pub record Passes (ws : List ℕ) (p : ℕ) : Type 0 where
  pub faultless : fault_at ws p ≡ 0
  pub inner : kind_at ws p ≡ 15 → ⊥

-- a word stands at place q and passes: the reader goes on behind it
unfoldable pub open_at : List ℕ → ℕ → Bool
open_at ws q = nat_lt q (length ws) && (fault_at ws q == 0 && not (kind_at ws q == 15))

-- after place q, up to the place next, every word of the same kind as the one there and of a value up to most passes
pub record Clear (ws : List ℕ) (q most next : ℕ) : Type 0 where
  pub free : (p : ℕ) → q < p → p < next → kind_at ws p ≡ kind_at ws q → value_at ws p ≤ most → Passes ws p

-- the reader that passes the word at place q comes to place r with the same verdict
pub record Passed (ws : List ℕ) (q r : ℕ) : Type 0 where
  pub forth : q < r
  pub inside : r ≤ length ws
  pub same : read_from ws (q + 1) (length ws - (q + 1)) ≡ read_from ws r (length ws - r)
