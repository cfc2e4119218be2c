-- OFF costs count as request #101 says: the rows' test is computed.
-- Assumes nothing.
use lib.Dec.{T}
use Rattle.claims.specs.Tests.{computes}
use Rattle.claims.specs.Warm.{warm_rows, Warm}
use Rattle.claims.proofs.RowLaws.{all_of_computed}

computed : T (computes warm_rows)
unfolding computes
computed = tt

pub warm : Warm
warm = all_of_computed warm_rows computed
