-- A nogood found in a table by the starts of a walk. Words are read by their places: a bound, and the choices that follow it.
-- Assumes nothing.
use Rattle.std.specs.Prelude.{ℕ, ◌+◌, ◌-◌, ◌/◌, ◌%◌, ◌≤◌, ◌<◌, ◌≡◌, true, List, length, get_or, Option, IfSome}
use Rattle.sums.specs.NumSet.{NumSet, has}
use Rattle.sums.specs.Table.{entry}
use Rattle.model.specs.Words.{kind_of, value_of}

-- a choice is unit × CHOICE_RADIX + start, units from 1
abbrev pub CHOICE_RADIX : ℕ
CHOICE_RADIX = 64

-- the starts have the choice of the word x
abbrev pub Chosen : (ℕ → ℕ) → ℕ → Type 0
Chosen starts x = starts (value_of x / CHOICE_RADIX - 1) ≡ value_of x % CHOICE_RADIX

-- u, one of a, is the unit of a choice x that xs has
pub record UnitMet (xs : List ℕ) (a : NumSet) (x u : ℕ) : Type 0 where
  pub few : u < 16
  pub placed : a u ≡ true
  pub unit : u + 1 ≡ value_of x / CHOICE_RADIX
  pub start : entry xs u ≡ value_of x % CHOICE_RADIX

-- the words after i up to m are choices
abbrev pub Choices : List ℕ → (i m : ℕ) → Type 0
Choices w i m = (q : ℕ) → i < q → q ≤ m → kind_of (get_or w q 0) ≡ 14

-- the starts have all choices that follow the bound at i
pub record Has (w : List ℕ) (i : ℕ) (starts : ℕ → ℕ) : Type 0 where
  pub each : (m : ℕ) → i < m → Choices w i m → Chosen starts (get_or w m 0)

-- whoever has the starts of xs for the units of b, all of a, has all choices of the nogood at i
pub record Match (w xs : List ℕ) (a : NumSet) (i b : ℕ) : Type 0 where
  pub takes : (starts : ℕ → ℕ) → ((q : ℕ) → has b q ≡ true → starts q ≡ entry xs q) → Has w i starts
  pub within : (q : ℕ) → has b q ≡ true → a q ≡ true

-- a nogood of the table whose choices xs has, and whose bound is at or above the walk's own, limit - 1
pub record Recall (w xs : List ℕ) (a : NumSet) (limit b : ℕ) : Type 0 where
  pub at : ℕ
  pub below : at < length w
  pub bound : kind_of (get_or w at 0) ≡ 13
  pub covers : limit ≤ value_of (get_or w at 0) + 1
  pub match : Match w xs a at b

-- what is said of the table: a nogood may be missed, which costs time and nothing else; one that is told is there
abbrev pub Recalled : (w xs : List ℕ) (a : NumSet) (limit : ℕ) → Option ℕ → Type 0
Recalled w xs a limit r = IfSome r (Recall w xs a limit)
