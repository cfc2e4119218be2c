-- Parts of a line that functions of their own put.
-- Assumes nothing.
use Rattle.std.specs.Prelude.{ℕ, ◌+◌, List, ◌++◌, get_or}
use Rattle.model.specs.Lines.{number_text, words_text, starts_word, spent_word, mark_text}
use Rattle.shape.specs.Shape.{COST_PLACE, START_PLACE}

-- the cost, " starts", the starts
unfoldable pub starts_text : List ℕ → (b u : ℕ) → List ℕ
starts_text ws b u = number_text (get_or ws (b + COST_PLACE) 0) ++ starts_word ++ words_text ws (b + START_PLACE) u

-- " spent", the mark
unfoldable pub spent_text : List ℕ → (b u w : ℕ) → List ℕ
spent_text ws b u w = spent_word ++ mark_text ws b u w
