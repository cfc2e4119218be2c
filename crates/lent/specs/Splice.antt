-- Words written into a lent list from a place on.
-- Assumes nothing.
use Rattle.std.specs.Prelude.{ℕ, ◌+◌, List, ◌++◌, length, take, drop}

-- a list with others in the place of its words from `at` on
unfoldable pub spliced : ℕ → (ws d : List ℕ) → List ℕ
spliced at ws d = take at d ++ ws ++ drop (at + length ws) d
