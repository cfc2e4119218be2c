-- What is true of an accepted file's words and their layout, in the plain numbers that sums and places need.
-- Assumes nothing.
use Rattle.std.specs.Prelude.{ℕ, ◌+◌, ◌*◌, ◌≤◌, ◌<◌, ◌≡◌, List, length}
use Rattle.model.specs.declared.Layout.{Layout}
use Rattle.model.specs.Words.{Laid, layout_of, problem_of}
use Rattle.model.specs.Verdict.{accepted}
use Rattle.model.specs.Reading.{read_of}

-- the words are an accepted file and l is its layout
pub record Filed (ws : List ℕ) (l : Layout) : Type 0 where
  pub passed : read_of ws ≡ accepted
  pub laid : l ≡ layout_of ws
  -- the problem has the layout's weeks and units
  pub weeks_are : (problem_of ws).weeks ≡ l.weeks
  pub units_are : (problem_of ws).units ≡ l.units
  pub weeks_some : 1 ≤ l.weeks
  pub weeks_most : l.weeks ≤ 52
  pub units_some : 1 ≤ l.units
  pub units_most : l.units ≤ 16
  -- a number for each week and unit
  pub cells_most : l.weeks * l.units ≤ 832
  pub sections : Laid l
  -- 0 to 120 pairs and the end word
  pub long : l.pairs < length ws
  pub short : length ws ≤ l.pairs + 121
