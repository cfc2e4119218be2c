-- Dead ends: starts of some units that no schedule has below a limit, for all schedules. A limit is exclusive: what is wanted costs less.
-- Assumes nothing.
use Rattle.std.specs.Prelude.{ℕ, ◌≤◌, ◌<◌, ◌≡◌, true, ltb}
use Rattle.sums.specs.NumSet.{NumSet}
use Rattle.model.specs.Problem.{Problem}
use Rattle.model.specs.Schedule.{Schedule, Sound, cost}
use Rattle.model.specs.Order.{Lower}

-- two choices of starts are the same for the units of b
abbrev pub Agree : Problem → NumSet → (starts other : ℕ → ℕ) → Type 0
Agree p b starts other = (i : ℕ) → i < p.units → b i ≡ true → other i ≡ starts i

-- a dead end: every sound schedule with these starts for the units of b, who share the blame, costs at least the limit
pub record Closed (p : Problem) (b : NumSet) (starts : ℕ → ℕ) (limit : ℕ) : Type 0 where
  pub costs : (s : Schedule) → Sound p s → Agree p b starts s.start → limit ≤ cost p s

-- every sound schedule before the place of the first k starts costs at least the limit
pub record Settled (p : Problem) (starts : ℕ → ℕ) (k limit : ℕ) : Type 0 where
  pub costs : (s : Schedule) → Sound p s → Lower ltb k s.start starts → limit ≤ cost p s
