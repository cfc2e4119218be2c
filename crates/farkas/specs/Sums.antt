-- What overhauls and weeks of the free plant come to, and all prices.
-- Assumes nothing.
use Rattle.std.specs.Prelude.{ℕ, ◌≤◌, ◌<◌, ◌≡◌, Bool, true}
use Rattle.sums.specs.Sum.{sum_to}
use Rattle.model.specs.Problem.{Problem}
use Rattle.model.specs.Domain.{permitted}
use Rattle.blame.specs.Free.{NoSchedule, span_price}

-- what the prices of an overhaul come to at most: 52 weeks at the highest
abbrev pub MOST_SPAN_PRICE : ℕ
MOST_SPAN_PRICE = 218103808

-- the smaller of two
pub record Lower (a b r : ℕ) : Type 0 where
  pub first : r ≤ a
  pub second : r ≤ b

-- the permitted starts of unit i below s have overhauls whose prices come to at least v
pub record StartsFree (p : Problem) (u : ℕ → ℕ → ℕ) (i s v : ℕ) : Type 0 where
  pub below : (q : ℕ) → q < s → permitted p i q ≡ true → v ≤ span_price p u i q
  pub small : v ≤ MOST_SPAN_PRICE

-- what overhauls and weeks come to at most: 52 weeks in which nobody may be out
abbrev pub MOST_FREE : ℕ
MOST_FREE = 446676598784

-- for each number below n one that holds for it, and their sum
pub record Summed (P : ℕ → ℕ → Type 0) (n sum : ℕ) : Type 0 where
  pub terms : ℕ → ℕ
  pub each : (i : ℕ) → i < n → P i (terms i)
  pub sum_is : sum ≡ sum_to n terms

-- an answer that, where it is yes, there is no schedule
pub record ShowsNone (p : Problem) (r : Bool) : Type 0 where
  pub none : r ≡ true → NoSchedule p
