-- A search that has placed some units, in any order: who is out in each week, what that costs so far, what it has tested, and the schedule that
-- all starts and the weeks' cheapest runs make.
-- Assumes nothing.
use Rattle.std.specs.Prelude.{ℕ, ◌+◌, ◌<◌, ◌≡◌, true, ◌&&◌, ◌||◌, ltb, eqb}
use Rattle.sums.specs.Sum.{sum_to}
use Rattle.sums.specs.NumSet.{NumSet}
use Rattle.model.specs.Problem.{Problem}
use Rattle.model.specs.Domain.{permitted}
use Rattle.model.specs.Schedule.{Schedule, in_span, out_in}
use Rattle.model.specs.Commitment.{Pick, nothing, picked, out_cost, least_cost, full_least, cheapest_run, NO_RUN}
use Rattle.model.specs.Plan.{Compatible}

-- the units below k
unfoldable pub first_units : ℕ → NumSet
first_units k i = ltb i k

-- the units of b that by their starts are out in week t
unfoldable pub out_of : Problem → NumSet → (ℕ → ℕ) → ℕ → NumSet
out_of p b starts t i = b i && out_in p starts t i

-- the same, with unit j out for the first n weeks of its overhaul
unfoldable pub partly : Problem → NumSet → (ℕ → ℕ) → (j n : ℕ) → ℕ → NumSet
unfolding out_of
partly p b starts j n t i = out_of p b starts t i || (eqb i j && in_span (starts j) n t)

-- what a week costs with these units out: their maintenance, and the cheapest run of the others
unfoldable pub week_paid : Problem → (ℕ → NumSet) → ℕ → ℕ
week_paid p out t = out_cost p t (out t) + least_cost p t (out t)

-- what all weeks cost, with the units of `out t` out in week t
unfoldable pub paid : Problem → (ℕ → NumSet) → ℕ
unfolding week_paid
paid p out = sum_to p.weeks (week_paid p out)

-- the starts of the units of b are permitted, and in each week those out may be out together and leave a run that meets the demand
pub record Standing (p : Problem) (b : NumSet) (starts : ℕ → ℕ) : Type 0 where
  pub permits : (i : ℕ) → b i ≡ true → permitted p i (starts i) ≡ true
  pub compatible : (t : ℕ) → t < p.weeks → Compatible p (out_of p b starts t)
  pub served : (t : ℕ) → t < p.weeks → full_least p t (out_of p b starts t) < NO_RUN

-- the run that was picked, 0 for none
unfoldable pub run_of : Pick → ℕ
run_of nothing = 0
run_of (picked r) = r

-- the cheapest run of week t with the units out that these starts say
unfoldable pub run_at : Problem → (ℕ → ℕ) → ℕ → ℕ
unfolding run_of
run_at p starts t = run_of (cheapest_run p t (out_in p starts t))

-- the starts, and each week's cheapest run
abbrev pub plan_of : Problem → (ℕ → ℕ) → Schedule
plan_of p starts = record { start = starts; run = run_at p starts }
