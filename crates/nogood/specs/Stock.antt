-- What a table of conflicts holds while asks are answered, and how it grows.
-- Assumes nothing.
use Rattle.std.specs.Prelude.{ℕ, ◌≡◌, List, [], ◌++◌, length}
use Rattle.model.specs.Problem.{Problem}
use Rattle.model.specs.Nogood.{Nogood, nogoods_words, bounds_alone, Table}

-- the nogoods gs, each true at its own bound, in the first words, as many as are used, and 0 in the rest
pub record Stock (p : Problem) (gs : List Nogood) (words : List ℕ) (used : ℕ) : Type 0 where
  pub table : Table p gs words
  pub ends : used ≡ length (nogoods_words gs)

-- the nogoods gs stand there still, and behind them others, which are as `Are` says
pub record Grown (p : Problem) (Are : List Nogood → Type 0) (gs : List Nogood) (words : List ℕ) (used : ℕ) : Type 0 where
  pub more : List Nogood
  pub are : Are more
  pub stock : Stock p (gs ++ more) words used

-- those without choices, which the end of a walk leaves, have these bounds
abbrev pub EndsUnder : List ℕ → List Nogood → Type 0
EndsUnder bounds gs = bounds_alone gs ≡ bounds

-- none is without choices
abbrev pub DeadEnds : List Nogood → Type 0
DeadEnds gs = EndsUnder [] gs
