-- What a search knows at prices for units that are not out: what each unit's overhaul costs from each start, what each week is worth with nobody
-- out, and the lower bound of the starts of some units. In the field this is the Lagrangian dual; prices are its multipliers.
-- Assumes nothing.
use Rattle.std.specs.Prelude.{ℕ, ◌+◌, ◌≤◌, ◌<◌, ◌≡◌, true, List, length}
use Rattle.sums.specs.Sum.{sum_to}
use Rattle.sums.specs.NumSet.{NumSet, only_in, has}
use Rattle.sums.specs.Table.{entry}
use Rattle.model.specs.Problem.{Problem}
use Rattle.model.specs.Domain.{permitted}
use Rattle.model.specs.Schedule.{in_span}
use Rattle.model.specs.Commitment.{NO_RUN}
use Rattle.blame.specs.Placed.{out_of}
use Rattle.blame.specs.Priced.{priced, price_sum, off_sum, lower_bound, WeekLeast}
use Rattle.tables.specs.Tables.{price_in, least_in, excess_in, root_in, total_in, Priced}
use Rattle.relaxation.specs.Relaxed.{Value}

-- ---- an overhaul

-- a sum over the weeks of unit i's overhaul from start s
unfoldable pub span_sum : Problem → (i s : ℕ) → (ℕ → ℕ) → ℕ
span_sum p i s f = sum_to p.weeks (only_in (in_span s (p.duration i)) f)

-- what these weeks cost at most, their prices included: 52 weeks at 250,000 and the highest price
abbrev pub MOST_SPAN : ℕ
MOST_SPAN = 231103808

-- ---- the table

-- what the overhaul of a unit costs at most: 52 weeks at 250,000 and the highest price, and 52 at 250,000
abbrev pub MOST_OVERHAUL : ℕ
MOST_OVERHAUL = 268435456

-- the first n units at prices u: what their overhauls cost
pub record Costs (p : Problem) (u : ℕ → ℕ → ℕ) (n : ℕ) (xs : List ℕ) : Type 0 where
  pub exact : (i s : ℕ) → i < n → permitted p i s ≡ true → least_in xs i + excess_in xs i s ≡ priced p u i s
  pub small : (i : ℕ) → i < n → least_in xs i ≤ MOST_OVERHAUL

-- the first n weeks with nobody out: what they are worth
pub record Roots (p : Problem) (u : ℕ → ℕ → ℕ) (n : ℕ) (xs : List ℕ) : Type 0 where
  pub each : (t : ℕ) → t < n → Value p u t (has 0) (root_in xs t)

-- a table that has all its parts
pub record Dual (p : Problem) (xs : List ℕ) : Type 0 where
  pub priced : Priced p xs
  pub costs : Costs p (price_in xs) p.units xs
  pub roots : Roots p (price_in xs) p.weeks xs
  pub total : total_in xs ≡ off_sum p + price_sum p (price_in xs)

-- at most what unit i's overhaul costs from any permitted start
pub record LeastFrom (p : Problem) (u : ℕ → ℕ → ℕ) (i v : ℕ) : Type 0 where
  pub below : (s : ℕ) → permitted p i s ≡ true → v ≤ priced p u i s

-- ---- the bound

-- for each week a value that holds with the units of `out t` out, and others perhaps
pub record WeekValues (p : Problem) (u : ℕ → ℕ → ℕ) (out : ℕ → NumSet) (xs : List ℕ) : Type 0 where
  pub long : length xs ≡ 52
  pub least : (t : ℕ) → t < p.weeks → WeekLeast p u t (out t) (entry xs t)
  pub small : (t : ℕ) → t < p.weeks → entry xs t ≤ NO_RUN

-- the starts of the units of b, the others at their least, and the weeks' values come to at least this
pub record Bounds (p : Problem) (us : List ℕ) (b : NumSet) (starts : ℕ → ℕ) (xs : List ℕ) (sum : ℕ) : Type 0 where
  pub values : WeekValues p (price_in us) (out_of p b starts) xs
  pub under : sum ≤ lower_bound p (price_in us) b starts (least_in us) (entry xs)
