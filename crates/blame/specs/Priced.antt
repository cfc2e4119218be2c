-- A lower bound of the cost of every sound schedule with the starts of some units, for any prices u t i of unit i being out in week t (in the
-- field, Lagrange multipliers of the sum over weeks and units). Prices are advice: the bound holds for all of them, and with prices 0 it is the sum
-- of the overhauls placed, the others' least, and the weeks' cheapest runs.
-- Assumes nothing.
use Rattle.std.specs.Prelude.{ℕ, ◌+◌, ◌≤◌, ◌<◌, ◌≡◌, true}
use Rattle.sums.specs.Logic.{if}
use Rattle.sums.specs.Sum.{sum_to, added, transposed, row_sum}
use Rattle.sums.specs.NumSet.{NumSet, only_in, parts, complement}
use Rattle.model.specs.Problem.{Problem}
use Rattle.model.specs.Domain.{permitted}
use Rattle.model.specs.Schedule.{in_span}
use Rattle.model.specs.Commitment.{Serves, full_cost}
use Rattle.model.specs.Plan.{Compatible}

-- what unit i's overhaul from start s costs, its prices included, with OFF in all other weeks
unfoldable pub priced : Problem → (ℕ → ℕ → ℕ) → ℕ → ℕ → ℕ
priced p u i s = sum_to p.weeks (parts (in_span s (p.duration i)) (added (transposed p.maint i) (transposed u i)) (transposed p.off i))

-- all prices
unfoldable pub price_sum : Problem → (ℕ → ℕ → ℕ) → ℕ
price_sum p u = sum_to p.weeks (row_sum p.units u)

-- all OFF costs: by so much overhauls and weeks together are more than a schedule's cost, since each cell is charged OFF once too often
unfoldable pub off_sum : Problem → ℕ
off_sum p = sum_to p.weeks (row_sum p.units p.off)

-- a unit's part of the bound: of b at its start, another at its least
unfoldable pub unit_bound : Problem → (ℕ → ℕ → ℕ) → NumSet → (starts least : ℕ → ℕ) → ℕ → ℕ
unfolding priced
unit_bound p u b starts least i = if (b i) (priced p u i (starts i)) (least i)

-- the bound: the units' parts, and v t for week t
unfoldable pub lower_bound : Problem → (ℕ → ℕ → ℕ) → NumSet → (starts least v : ℕ → ℕ) → ℕ
unfolding unit_bound
lower_bound p u b starts least v = sum_to p.units (unit_bound p u b starts least) + sum_to p.weeks v

-- least i is at most what unit i costs from any permitted start
pub record LeastPriced (p : Problem) (u : ℕ → ℕ → ℕ) (least : ℕ → ℕ) : Type 0 where
  pub below : (i s : ℕ) → i < p.units → permitted p i s ≡ true → least i ≤ priced p u i s

-- v is at most what any run of week t costs, all other units OFF, and the prices of the units not out, whatever compatible set with the units
-- of a is out
pub record WeekLeast (p : Problem) (u : ℕ → ℕ → ℕ) (t : ℕ) (a : NumSet) (v : ℕ) : Type 0 where
  pub below : (out : NumSet) (r : ℕ) → Compatible p out → ((i : ℕ) → i < p.units → a i ≡ true → out i ≡ true) → Serves p t out r
      → v ≤ full_cost p t r + sum_to p.units (only_in (complement out) (u t))
