-- Text put into lent bytes from a place on.
-- Assumes nothing.
use Rattle.std.specs.Prelude.{ℕ, ◌+◌, ◌*◌, ◌≤◌, ◌≡◌, List, length}
use Rattle.lent.specs.Splice.{spliced}
use Rattle.shape.specs.Shape.{block_size}

-- the bytes d have become d': this text stands from place `at` up to place r, and is no longer than `most`
pub record Put (d d' : List ℕ) (at r most : ℕ) (text : List ℕ) : Type 0 where
  pub bytes : d' ≡ spliced at text d
  pub end : r ≡ at + length text
  pub short : length text ≤ most

-- a block of u units and w weeks at place b stands in so many words
pub record Whole (words b u w : ℕ) : Type 0 where
  pub units : u ≤ 16
  pub weeks : w ≤ 52
  pub within : b + block_size u w ≤ words

-- the blocks of so many asks, one after the other, stand in so many words
pub record Listed (words asks u w : ℕ) : Type 0 where
  pub units : u ≤ 16
  pub weeks : w ≤ 52
  pub few : asks ≤ 32
  pub within : asks * block_size u w ≤ words
