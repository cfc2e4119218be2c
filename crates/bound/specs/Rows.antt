-- Tallies as words of 64 bits, one for each week: the number of the set of units out, above it how many they are, above both what they cost.
-- Assumes nothing.
use Rattle.std.specs.Prelude.{ℕ, ◌+◌, ◌*◌, ◌/◌, ◌%◌, ◌≤◌, ◌<◌, ◌≡◌, true, ◌&&◌, ◌||◌, List, length, get_or, eqb}
use Rattle.sums.specs.NumSet.{NumSet, has}
use Rattle.sets.specs.Sets.{SETS}
use Rattle.model.specs.Problem.{Problem}
use Rattle.model.specs.Domain.{permitted}
use Rattle.model.specs.Schedule.{out_in}
use Rattle.commitment.specs.declared.Tally.{Tally}
use Rattle.commitment.specs.Tally.{Tallies}

-- how many units are out lies below it
abbrev pub COUNTS : ℕ
COUNTS = 32

-- what the units out of a week cost at most: 16 at 250,000
abbrev pub MOST_OUT : ℕ
MOST_OUT = 4000000

-- what a week costs at most with them: as much as where there is no run, and their maintenance
abbrev pub MOST_WEEK : ℕ
MOST_WEEK = 272435456

-- the tally that a word holds: who is out, how many, and what they cost
abbrev pub tally_of : ℕ → Tally
tally_of x = record { out = x % SETS; count = x / SETS % COUNTS; cost = record { 0 = x / SETS / COUNTS } }

-- the word of a tally
unfoldable pub word_of : Tally → ℕ
word_of y = (y.cost.0 * COUNTS + y.count) * SETS + y.out

-- a tally that a word can hold
pub record Packs (y : Tally) : Type 0 where
  pub few : y.out < SETS
  pub many : y.count < COUNTS
  pub cheap : y.cost.0 ≤ MOST_OUT

-- the tally of word y has the units of that of word x, and unit i
pub record RowJoins (x i y : ℕ) : Type 0 where
  pub sets : (k : ℕ) → has (y % SETS) k ≡ (has (x % SETS) k || eqb k i)

-- 52 words, for each week that of a tally of the units of `out t`
pub record Rows (p : Problem) (out : ℕ → NumSet) (rows : List ℕ) : Type 0 where
  pub long : length rows ≡ 52
  pub tallies : (t : ℕ) → t < p.weeks → Tallies p t (tally_of (get_or rows t 0))
  pub sets : (t : ℕ) → t < p.weeks → (i : ℕ) → has (get_or rows t 0 % SETS) i ≡ out t i

-- unit j is one of the problem's, at its permitted start, and the words are those of tallies
pub record RowsDue (p : Problem) (rows : List ℕ) (starts : ℕ → ℕ) (j : ℕ) : Type 0 where
  pub unit : j < p.units
  pub permits : permitted p j (starts j) ≡ true
  pub long : length rows ≡ 52
  pub tallies : (t : ℕ) → t < p.weeks → Tallies p t (tally_of (get_or rows t 0))

-- the same rows with unit j out in the weeks of its overhaul
pub record RowsWith (p : Problem) (rows : List ℕ) (starts : ℕ → ℕ) (j : ℕ) (next : List ℕ) : Type 0 where
  pub long : length next ≡ 52
  pub tallies : (t : ℕ) → t < p.weeks → Tallies p t (tally_of (get_or next t 0))
  pub sets : (t : ℕ) → t < p.weeks → (i : ℕ) → has (get_or next t 0 % SETS) i ≡ (has (get_or rows t 0 % SETS) i || (eqb i j && out_in p starts t j))

-- the rows of all units at these starts
pub record RowsOfAll (p : Problem) (starts : ℕ → ℕ) (rows : List ℕ) : Type 0 where
  pub long : length rows ≡ 52
  pub tallies : (t : ℕ) → t < p.weeks → Tallies p t (tally_of (get_or rows t 0))
  pub sets : (t : ℕ) → t < p.weeks → (i : ℕ) → i < p.units → has (get_or rows t 0 % SETS) i ≡ out_in p starts t i
