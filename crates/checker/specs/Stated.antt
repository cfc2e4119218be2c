-- What judging asks of a grid.
-- Assumes nothing.
use Rattle.model.specs.Grid.{Cells}
use Rattle.instance.specs.File.{problem}
use Rattle.rules.specs.declared.grid.Grid.{Grid}
use Rattle.rules.specs.Gridded.{states}

-- it has one of the three states for each week and unit
pub record Stated (g : Grid) : Type 0 where
  pub cells : Cells (problem g.file) (states g)
