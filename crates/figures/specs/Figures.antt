-- The statement of the common theorem on the worked figures and the rows beside them.
-- Assumes nothing.
use Rattle.claims.specs.Rows.{rows, All}
use Rattle.claims.specs.General.{General}
use Rattle.claims.specs.Worked.{Worked}
use Rattle.claims.specs.Ties.{Ties}
use Rattle.claims.specs.Warm.{Warm}
use Rattle.figures.specs.Runs.{Runs}
use Rattle.claims.specs.Refusals.{Refusals}
use Rattle.claims.specs.Encodings.{Encodings}

-- P1 to P11; P6 and P8 to P10 for every problem
abbrev pub Paper : Type 0
Paper = All rows × General

-- the paper's figures and its worked run; ties, OFF costs and runs of asks; refusals; words, bytes and lines
abbrev pub Figures : Type 0
Figures = Paper × Worked × Ties × Warm × Runs × Refusals × Encodings
