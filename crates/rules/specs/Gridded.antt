-- What a grid says.
-- Assumes nothing.
use Rattle.model.specs.Grid.{States, cell}
use Rattle.rules.specs.declared.grid.Grid.{Grid}

-- the state of each unit in each week
abbrev pub states : Grid → States
states g = cell g.file.layout.units g.cells.now
