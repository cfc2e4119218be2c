-- P1 to P11 hold. One test over all rows is computed, and each row's is carried to its claim, which speaks of all schedules.
-- Assumes nothing.
use lib.Dec.{T}
use Rattle.claims.specs.Rows.{rows, All}
use Rattle.claims.specs.Tests.{computes}
use Rattle.claims.proofs.RowLaws.{all_of_computed}

computed : T (computes rows)
unfolding computes
computed = tt

pub rows_hold : All rows
rows_hold = all_of_computed rows computed
