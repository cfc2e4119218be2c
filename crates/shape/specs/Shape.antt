-- The places of a block's parts, from its first word on, and its size, for u units and w weeks (document 01, "A run of asks").
-- Assumes nothing.
use Rattle.std.specs.Prelude.{ℕ, ◌+◌, ◌*◌}

-- the cost, behind the status
abbrev pub COST_PLACE : ℕ
COST_PLACE = 1

-- the first start
abbrev pub START_PLACE : ℕ
START_PLACE = 2

-- the run numbers, behind U starts
abbrev pub runs_at : ℕ → ℕ
runs_at u = 2 + u

-- the mark, behind W run numbers
abbrev pub mark_at : (u w : ℕ) → ℕ
mark_at u w = 2 + u + w

-- all words, with U of mark
abbrev pub block_size : (u w : ℕ) → ℕ
block_size u w = 2 + 2 * u + w
