-- The free plant: a problem with all costs 0. It has the same sound schedules, and each of them costs nothing; so where prices show that none costs
-- less than 1 there, there is none at all. In the field such prices are a Farkas certificate: a proof that a problem is infeasible.
-- Assumes nothing.
use Rattle.std.specs.Prelude.{ℕ, ◌≤◌, ◌≡◌, true}
use Rattle.sums.specs.Sum.{sum_to, transposed}
use Rattle.sums.specs.NumSet.{NumSet, only_in, complement}
use Rattle.model.specs.Problem.{Problem}
use Rattle.model.specs.Rules.{output}
use Rattle.model.specs.Domain.{permitted}
use Rattle.model.specs.Schedule.{Schedule, in_span, Sound}
use Rattle.model.specs.Plan.{Compatible}

-- no schedule meets formulas (1) to (8), whatever it costs
pub record NoSchedule (p : Problem) : Type 0 where
  pub never : (s : Schedule) → Sound p s → ⊥

-- the same problem, with maintenance, running and OFF for nothing
unfoldable pub freed : Problem → Problem
freed p = record {
  weeks = p.weeks;
  units = p.units;
  crews = p.crews;
  demand = p.demand;
  capacity = p.capacity;
  earliest = p.earliest;
  latest = p.latest;
  duration = p.duration;
  maint = λ t i. 0;
  running = λ t i. 0;
  off = λ t i. 0;
  pairs = p.pairs;
  pair_a = p.pair_a;
  pair_b = p.pair_b;
}

-- the prices of the weeks of unit i's overhaul from start s
unfoldable pub span_price : Problem → (ℕ → ℕ → ℕ) → (i s : ℕ) → ℕ
span_price p u i s = sum_to p.weeks (only_in (in_span s (p.duration i)) (transposed u i))

-- v is at most that from any permitted start
pub record UnitFree (p : Problem) (u : ℕ → ℕ → ℕ) (i v : ℕ) : Type 0 where
  pub below : (s : ℕ) → permitted p i s ≡ true → v ≤ span_price p u i s

-- v is at most the prices in week t of the units not out, whatever compatible set is out and leaves capacities that reach the demand
pub record WeekFree (p : Problem) (u : ℕ → ℕ → ℕ) (t v : ℕ) : Type 0 where
  pub below : (out : NumSet) → Compatible p out → p.demand t ≤ output p t (complement out) → v ≤ sum_to p.units (only_in (complement out) (u t))
