-- What a run has that was not turned away, as far as its code needs it: an accepted file, at most 32 asks, and enough lent memory.
-- Assumes nothing.
use Rattle.std.specs.Prelude.{ℕ, ◌*◌, ◌≤◌, List}
use Rattle.model.specs.Asks.{ask_count}
use Rattle.instance.specs.declared.file.File.{File}
use Rattle.shape.specs.Shape.{block_size}

-- an accepted file, the asks, and how many words are lent for conflicts and for blocks
pub record Admitted (file : File) (asks : List ℕ) (table answers : ℕ) : Type 0 where
  pub few : ask_count asks ≤ 32
  pub long : 64 ≤ table
  pub room : ask_count asks * block_size file.layout.units file.layout.weeks ≤ answers
