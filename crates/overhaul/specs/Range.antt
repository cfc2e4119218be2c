-- The permitted starts of a unit as a range (document 01, "Starts, walk order, conflicts").
-- Assumes nothing.
use Rattle.std.specs.Prelude.{ℕ, ◌+◌, ◌-◌, min, ◌≡◌, ◌&&◌, leb}
use Rattle.model.specs.Problem.{Problem}
use Rattle.model.specs.Domain.{permitted}

-- the last start that the latest start and the duration leave; it may lie before the earliest
unfoldable pub last_start : Problem → ℕ → ℕ
last_start p i = min (p.latest i) (p.weeks - p.duration i + 1)

-- the permitted starts of unit i are those from the first to the last
pub record StartRange (p : Problem) (i first last : ℕ) : Type 0 where
  pub exact : (s : ℕ) → permitted p i s ≡ (leb first s && leb s last)
