-- How the table comes to its parts: what a function of a unit or of its start asks, and what is made so far.
-- Assumes nothing.
use Rattle.std.specs.Prelude.{ℕ, ◌+◌, ◌≤◌, ◌<◌, ◌≡◌, true, List}
use Rattle.model.specs.Domain.{permitted}
use Rattle.instance.specs.declared.file.File.{File}
use Rattle.instance.specs.File.{problem}
use Rattle.blame.specs.Priced.{priced}
use Rattle.tables.specs.Tables.{START_COSTS, price_in, least_in, excess_in, Priced, Begins}
use Rattle.dual.specs.Dual.{MOST_OVERHAUL, Costs, Roots, LeastFrom}

-- unit i of a file, with a table that has prices
pub record UnitAt (file : File) (us : List ℕ) (i : ℕ) : Type 0 where
  pub unit : i < file.layout.units
  pub priced : Priced (problem file) us

-- a permitted start of unit i
pub record StartAt (file : File) (i s : ℕ) : Type 0 where
  pub unit : i < file.layout.units
  pub permits : permitted (problem file) i s ≡ true

-- the costs of the first n units, behind what the table us begins with
pub record CostsMade (file : File) (us : List ℕ) (n : ℕ) (xs : List ℕ) : Type 0 where
  pub priced : Priced (problem file) us
  pub begins : Begins START_COSTS us xs
  pub costs : Costs (problem file) (price_in us) n xs

-- those of the units below i, and of unit i its least and what it costs above from the permitted starts below s
pub record CostsTo (file : File) (us : List ℕ) (i least s : ℕ) (xs : List ℕ) : Type 0 where
  pub made : CostsMade file us i xs
  pub unit : i < file.layout.units
  pub low : least_in xs i ≡ least
  pub few : least ≤ MOST_OVERHAUL
  pub under : LeastFrom (problem file) (price_in us) i least
  pub exact : (q : ℕ) → q < s → permitted (problem file) i q ≡ true → least + excess_in xs i q ≡ priced (problem file) (price_in us) i q

-- those of all units, and what the first n weeks are worth
pub record RootsMade (file : File) (us : List ℕ) (n : ℕ) (xs : List ℕ) : Type 0 where
  pub made : CostsMade file us file.layout.units xs
  pub roots : Roots (problem file) (price_in us) n xs
