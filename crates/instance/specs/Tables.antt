-- The two cost tables of a file as lists, and a week's row of one of them (document 01, "Grids and the judge": a cell's cost).
-- Assumes nothing.
use Rattle.std.specs.Prelude.{ℕ, ◌*◌, List, take, drop, eqb}
use Rattle.sums.specs.Logic.{if}
use Rattle.model.specs.declared.Layout.{Layout}
use Rattle.model.specs.Grid.{MAINT}

-- the maintenance costs, week by week, unit by unit within a week
unfoldable pub maints_of : Layout → List ℕ → List ℕ
maints_of l ws = take (l.weeks * l.units) (drop l.maints ws)

-- the running costs, in the same order
unfoldable pub runnings_of : Layout → List ℕ → List ℕ
runnings_of l ws = take (l.weeks * l.units) (drop l.runnings ws)

-- the table that a cell's state names: maintenance costs for MAINT, running costs for ON (and for OFF, which reads neither)
unfoldable pub table_for : ℕ → List ℕ → List ℕ → List ℕ
table_for s maints runnings = if (eqb s MAINT) maints runnings

-- week t's row of a table of u columns
unfoldable pub row_of : ℕ → ℕ → List ℕ → List ℕ
row_of u t xs = take u (drop (t * u) xs)
