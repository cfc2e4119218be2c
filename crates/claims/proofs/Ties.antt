-- Ties are decided by run numbers and starts, as the papers say: the rows' test is computed.
-- Assumes nothing.
use lib.Dec.{T}
use Rattle.claims.specs.Tests.{computes}
use Rattle.claims.specs.Ties.{tie_rows, Ties}
use Rattle.claims.proofs.RowLaws.{all_of_computed}

computed : T (computes tie_rows)
unfolding computes
computed = tt

pub ties : Ties
ties = all_of_computed tie_rows computed
