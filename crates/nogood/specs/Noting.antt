-- A dead end as a nogood, and what its noting makes of a lent table (document 01, "Starts, walk order, conflicts").
-- Assumes nothing.
use Rattle.std.specs.Prelude.{ℕ, zero, suc, ◌+◌, ◌-◌, Bool, ◌&&◌, List, [], ◌∷◌, ◌++◌, length, set, leb, eqb}
use Rattle.sums.specs.Logic.{if}
use Rattle.sums.specs.NumSet.{NumSet}
use Rattle.lent.specs.Splice.{spliced}
use Rattle.model.specs.Words.{◌∶◌}
use Rattle.model.specs.Nogood.{Choice, Nogood, nogood_words}

-- dead ends leave so many words of the table free, for the ends of walks
abbrev pub KEPT_FREE : ℕ
KEPT_FREE = 32

-- besides its choices a dead end needs room for its bound, and what stays free
abbrev pub NOTE_ROOM : ℕ
NOTE_ROOM = 1 + KEPT_FREE

-- unit k and its start, where the set has it
unfoldable pub choice_of : (ℕ → ℕ) → NumSet → ℕ → List Choice
choice_of starts b k = if (b k) (record { unit = k; start = starts k } ∷ []) []

-- the units of b below k with their starts, units rising
unfoldable pub choices_of : (ℕ → ℕ) → NumSet → ℕ → List Choice
unfolding choice_of
choices_of starts b zero = []
choices_of starts b (suc k) = choices_of starts b k ++ choice_of starts b k

-- the starts of the units of b below k are a dead end below a limit: no schedule with them costs limit - 1 or less
abbrev pub nogood_for : (ℕ → ℕ) → NumSet → (k limit : ℕ) → Nogood
nogood_for starts b k limit = record { bound = limit - 1; choices = choices_of starts b k }

-- a dead end is noted: it has 1 to 3 choices (document 01 allows 8; few cut more), a bound, and space that leaves the last words free
unfoldable pub notable : (lent used limit : ℕ) → List Choice → Bool
notable lent used limit cs = leb 1 limit && (leb 1 (length cs) && (leb (length cs) 3 && leb (used + 1 + length cs + KEPT_FREE) lent))

-- how many words are used then
unfoldable pub noted_used : (lent used limit : ℕ) → Nogood → ℕ
unfolding notable
noted_used lent used limit g = if (notable lent used limit g.choices) (used + length (nogood_words g)) used

-- and the words
unfoldable pub noted : (words : List ℕ) (used limit : ℕ) → Nogood → List ℕ
unfolding notable
noted words used limit g = if (notable (length words) used limit g.choices) (spliced used (nogood_words g) words) words

-- the bounds of the nogoods without choices that the end of a walk under this limit adds: limit - 1, none where the limit is 0
unfoldable pub end_bounds : ℕ → List ℕ
end_bounds limit = if (eqb limit 0) [] ((limit - 1) ∷ [])

-- how many words are used after the end of a walk
unfoldable pub end_used : (used limit : ℕ) → ℕ
end_used used limit = if (eqb limit 0) used (used + 1)

-- and the words
unfoldable pub ended : (words : List ℕ) (used limit : ℕ) → List ℕ
ended words used limit = if (eqb limit 0) words (set words used (13 ∶ (limit - 1)))
