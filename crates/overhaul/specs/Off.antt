-- What a unit costs OFF over the season (request #101).
-- Assumes nothing.
use Rattle.std.specs.Prelude.{ℕ}
use Rattle.sums.specs.Sum.{sum_to, transposed}
use Rattle.model.specs.Problem.{Problem}

-- what unit i costs OFF in all weeks
unfoldable pub off_weeks : Problem → ℕ → ℕ
off_weeks p i = sum_to p.weeks (transposed p.off i)
