-- A week by itself, at prices for units that are not out: the least that a run and these prices come to, whatever set of units is out. In the field
-- this is the week's part of a Lagrangian relaxation, in which weeks and overhauls are joined by prices alone.
-- Assumes nothing.
use Rattle.std.specs.Prelude.{ℕ, ◌+◌, ◌*◌, ◌≤◌, ◌<◌, ◌≡◌, List, get_or}
use Rattle.sums.specs.NumSet.{NumSet, has}
use Rattle.sets.specs.Sets.{SETS}
use Rattle.model.specs.Problem.{Problem}
use Rattle.model.specs.Commitment.{full_least, NoRun, NO_RUN}
use Rattle.instance.specs.declared.file.File.{File}
use Rattle.instance.specs.File.{problem}
use Rattle.tables.specs.Tables.{Priced}
use Rattle.memo.specs.Memo.{OTHERS, key_of, Right}
use Rattle.blame.specs.Priced.{WeekLeast}

-- week t of a file, with a table that has prices and partners
pub record WeekAt (file : File) (xs : List ℕ) (t : ℕ) : Type 0 where
  pub week : t < file.layout.weeks
  pub priced : Priced (problem file) xs

-- v is at most what week t is worth with the units of a out, and others perhaps; or stands for no run
pub record Value (p : Problem) (u : ℕ → ℕ → ℕ) (t : ℕ) (a : NumSet) (v : ℕ) : Type 0 where
  pub least : WeekLeast p u t a v
  pub small : v ≤ NO_RUN
  pub none : NO_RUN ≤ v → NoRun p t a
  pub serves : v < NO_RUN → full_least p t a < NO_RUN

-- the key of such a value
unfoldable pub value_key : (t out : ℕ) → ℕ
unfolding key_of
value_key t out = key_of t out + OTHERS

-- an entry under such a key has such a value
pub record MemoValues (p : Problem) (u : ℕ → ℕ → ℕ) (memo : List ℕ) : Type 0 where
  pub holds : (e t out : ℕ) → out < SETS → get_or memo (e * 2) 0 ≡ value_key t out → Value p u t (has out) (get_or memo (e * 2 + 1) 0)

-- a memo of least costs, and of values at these prices
pub record MemoTrue (p : Problem) (u : ℕ → ℕ → ℕ) (memo : List ℕ) : Type 0 where
  pub costs : Right p memo
  pub values : MemoValues p u memo
