-- Tables: lists of numbers of which every place is read, 0 past the end.
-- Assumes nothing.
use Rattle.std.specs.Prelude.{ℕ, ◌≤◌, List, get_or}

-- the number at a place of a table, 0 past its end
unfoldable pub entry : List ℕ → ℕ → ℕ
entry xs i = get_or xs i 0

-- no number of the table is above b
pub record AtMost (b : ℕ) (xs : List ℕ) : Type 0 where
  pub most : (i : ℕ) → get_or xs i 0 ≤ b
