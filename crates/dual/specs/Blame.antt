-- Who is to blame that no schedule is left below a limit: the starts of units that keep the lower bound there.
-- Assumes nothing.
use Rattle.std.specs.Prelude.{ℕ, ◌+◌, ◌-◌, ◌≤◌, ◌<◌, ◌≡◌, true, false, List, length}
use Rattle.sums.specs.Sum.{sum_to, shifted}
use Rattle.sums.specs.NumSet.{NumSet, has, with}
use Rattle.sums.specs.Table.{entry}
use Rattle.model.specs.Problem.{Problem}
use Rattle.model.specs.Domain.{permitted}
use Rattle.model.specs.Schedule.{out_in}
use Rattle.instance.specs.declared.file.File.{File}
use Rattle.instance.specs.File.{problem}
use Rattle.instance.specs.declared.Euro.{Euro}
use Rattle.blame.specs.Closed.{Closed}
use Rattle.tables.specs.Tables.{excess_in, root_in, total_in}
use Rattle.dual.specs.declared.BlameLeft.{BlameLeft}
use Rattle.dual.specs.declared.Node.{Node}
use Rattle.dual.specs.Dual.{Dual, Bounds}

-- what a bound has to come to at most: the highest limit, all OFF costs and all prices
abbrev pub MOST_WANTED : ℕ
MOST_WANTED = 8589934592

-- the units placed, and the node's own
abbrev pub placed_after : Node → NumSet
placed_after node = with (has node.placed) node.unit

-- the node of the next unit, with the units of this set placed, at this bound
abbrev pub next_node : Node → (placed : ℕ) → Euro → Node
next_node node placed b = record { starts = node.starts; unit = node.unit + 1; bound = b; placed = placed }

-- the node after its unit is placed, at this bound
pub record IsNext (node : Node) (b : Euro) (r : Node) : Type 0 where
  pub is : r ≡ next_node node r.placed b
  pub joins : (i : ℕ) → has r.placed i ≡ placed_after node i

-- the same node at another bound
abbrev pub with_bound : Node → Euro → Node
with_bound node b = record { starts = node.starts; unit = node.unit; bound = b; placed = node.placed }

-- the starts of the units of b are permitted
pub record PermitsOf (p : Problem) (b : NumSet) (starts : ℕ → ℕ) : Type 0 where
  pub each : (i : ℕ) → b i ≡ true → permitted p i (starts i) ≡ true

-- a node of a walk, with a lower bound of the schedules with the starts of the units placed
pub record Bounded (file : File) (us : List ℕ) (node : Node) (xs : List ℕ) : Type 0 where
  pub dual : Dual (problem file) us
  pub permits : PermitsOf (problem file) (has node.placed) (entry node.starts)
  pub bounds : Bounds (problem file) us (has node.placed) (entry node.starts) xs node.bound.0

-- the units to blame, of those placed: where the bound comes to the limit and the total, their starts are a dead end; else all of them
pub record Blamed (p : Problem) (us : List ℕ) (node : Node) (limit b : ℕ) : Type 0 where
  pub within : (i : ℕ) → has b i ≡ true → has node.placed i ≡ true
  pub closed : limit + total_in us ≤ node.bound.0 → Closed p (has b) (entry node.starts) limit
  pub all : node.bound.0 < limit + total_in us → b ≡ node.placed

-- ---- fewer units to blame

-- what a week is worth above its value with nobody out
unfoldable pub gain_in : (us xs : List ℕ) → ℕ → ℕ
unfolding entry
gain_in us xs t = entry xs t - root_in us t

-- what the bound loses without unit i
unfoldable pub loss_of : Problem → (us : List ℕ) → (ℕ → ℕ) → List ℕ → ℕ → ℕ
unfolding gain_in
loss_of p us starts xs i = excess_in us i (starts i) + sum_to (p.duration i) (shifted (starts i - 1) (gain_in us xs))

-- the first k weeks from week a on are put back to their value with nobody out, the others are as they were
pub record BackTo (us : List ℕ) (a k : ℕ) (xs ys : List ℕ) : Type 0 where
  pub long : length ys ≡ 52
  pub inside : (t : ℕ) → a ≤ t → t < a + k → entry ys t ≡ root_in us t
  pub before : (t : ℕ) → t < a → entry ys t ≡ entry xs t
  pub after : (t : ℕ) → a + k ≤ t → entry ys t ≡ entry xs t

-- the weeks of unit i's overhaul are put back to their value with nobody out
pub record PutBack (p : Problem) (us : List ℕ) (starts : ℕ → ℕ) (i : ℕ) (xs ys : List ℕ) : Type 0 where
  pub long : length ys ≡ 52
  pub inside : (t : ℕ) → t < p.weeks → out_in p starts t i ≡ true → entry ys t ≡ root_in us t
  pub outside : (t : ℕ) → t < p.weeks → out_in p starts t i ≡ false → entry ys t ≡ entry xs t

-- units whose starts keep the bound where it is wanted
pub record ShrinksTo (p : Problem) (us : List ℕ) (starts : ℕ → ℕ) (wanted : ℕ) (kept : BlameLeft) (xs : List ℕ) : Type 0 where
  pub bounds : Bounds p us (has kept.units) starts xs kept.sum.0
  pub reaches : wanted ≤ kept.sum.0

-- units fewer than those that were kept, with which the bound is still where it is wanted
pub record Dropped (p : Problem) (us : List ℕ) (starts : ℕ → ℕ) (wanted : ℕ) (kept r : BlameLeft) (xs : List ℕ) : Type 0 where
  pub thins : ShrinksTo p us starts wanted r xs
  pub fewer : (n : ℕ) → has r.units n ≡ true → has kept.units n ≡ true

-- the same with some values of the weeks, of units of b
pub record Shrunk (p : Problem) (us : List ℕ) (b : NumSet) (starts : ℕ → ℕ) (wanted : ℕ) (kept : BlameLeft) : Type 0 where
  pub xs : List ℕ
  pub thins : ShrinksTo p us starts wanted kept xs
  pub within : (i : ℕ) → has kept.units i ≡ true → b i ≡ true

-- unit i at its permitted start, with the weeks' values
pub record OverhaulAt (file : File) (starts : List ℕ) (i : ℕ) (xs : List ℕ) : Type 0 where
  pub unit : i < file.layout.units
  pub permits : permitted (problem file) i (entry starts i) ≡ true
  pub long : length xs ≡ 52

-- it may be dropped from the units that keep the bound where it is wanted
pub record Dropping (file : File) (us starts : List ℕ) (i wanted : ℕ) (kept : BlameLeft) (xs : List ℕ) : Type 0 where
  pub at : OverhaulAt file starts i xs
  pub dual : Dual (problem file) us
  pub few : wanted ≤ MOST_WANTED
  pub thins : ShrinksTo (problem file) us (entry starts) wanted kept xs

-- the same where it is one of them
pub record MayDrop (file : File) (us starts : List ℕ) (i wanted : ℕ) (kept : BlameLeft) (xs : List ℕ) : Type 0 where
  pub unit : i < 32
  pub thins : ShrinksTo (problem file) us (entry starts) wanted kept xs
  pub dropping : has kept.units i ≡ true → Dropping file us starts i wanted kept xs
