-- Which units of the free plant may be out in a week, of those below k: what the others have to give, how many crews are left and who is barred is
-- known of the units from k on. In the field this is a knapsack with a bound on the number of items and pairs that exclude each other.
-- Assumes nothing.
use Rattle.std.specs.Prelude.{ℕ, suc, ◌+◌, ◌-◌, ◌*◌, ◌≤◌, ◌<◌, ◌≡◌, true, false, ◌||◌, ◌⊎◌, List, length}
use Rattle.sums.specs.Sum.{sum_to, counts_one}
use Rattle.sums.specs.NumSet.{NumSet, only_in, complement, has}
use Rattle.sums.specs.Table.{entry}
use Rattle.model.specs.Problem.{Problem}
use Rattle.model.specs.Pairs.{apart}
use Rattle.instance.specs.declared.file.File.{File}
use Rattle.instance.specs.File.{problem}
use Rattle.tables.specs.Tables.{MOST_WEEK_PRICES, MOST_PRICE, price_in, Priced}
use Rattle.farkas.specs.declared.week.FreeNode.{FreeNode}
use Rattle.farkas.specs.declared.week.FreeWeek.{FreeWeek}
use Rattle.farkas.specs.declared.week.Looked.{Looked}
use Rattle.farkas.specs.declared.week.Looked.TheVariants.{Done, Open}
use Rattle.farkas.specs.declared.week.SumsWith.{SumsWith}

-- ---- sets of units out

-- the units of x below k may be out: the others give what is needed, the crews suffice, none is barred, and no two form an excluded pair
pub record MayBeOut (p : Problem) (t k need crews : ℕ) (bar x : NumSet) : Type 0 where
  pub enough : need ≤ sum_to k (only_in (complement x) (p.capacity t))
  pub few : sum_to k (only_in x counts_one) ≤ crews
  pub free : (i : ℕ) → i < k → x i ≡ true → bar i ≡ false
  pub clear : (i j : ℕ) → i < k → j < i → x i ≡ true → x j ≡ true → apart p i j ≡ false

-- v is at most the prices of the units not out, on top of the score, whoever of those below k may be out
pub record Floor (p : Problem) (u : ℕ → ℕ → ℕ) (t k need crews : ℕ) (bar : NumSet) (score v : ℕ) : Type 0 where
  pub below : (x : NumSet) → MayBeOut p t k need crews bar x → v ≤ score + sum_to k (only_in (complement x) (u t))

-- these units may never be out of week t, all of them below n: without one of them the capacities fall short of the demand
pub record NeverTo (p : Problem) (t n : ℕ) (never : NumSet) : Type 0 where
  pub short : (i : ℕ) → never i ≡ true → sum_to p.units (p.capacity t) < p.demand t + p.capacity t i

-- ---- sums over the units below k, in rows of 17

abbrev pub OPEN : ℕ
OPEN = 17

abbrev pub TOP : ℕ
TOP = 34

abbrev pub CAPS : ℕ
CAPS = 51

-- behind the rows the units that may never be out
abbrev pub NEVER : ℕ
NEVER = 68

-- the numbers of the whole
abbrev pub SUMS : ℕ
SUMS = 69

-- what is given for a week in which no units may be out: more than all prices together
abbrev pub NO_WEEK : ℕ
NO_WEEK = 8589934592

-- the units that may never be out
unfoldable pub never_in : List ℕ → NumSet
unfolding entry
never_in xs = has (entry xs NEVER)

-- the sums over the first n units of week t
pub record SumsTo (p : Problem) (u : ℕ → ℕ → ℕ) (t n : ℕ) (xs : List ℕ) : Type 0 where
  pub prices : (k : ℕ) → k ≤ n → entry xs k ≡ sum_to k (u t)
  pub leaving : (k : ℕ) → k ≤ n → entry xs (OPEN + k) ≡ sum_to k (only_in (complement (never_in xs)) (u t))
  pub top : (k i : ℕ) → k ≤ n → i < k → never_in xs i ≡ false → u t i ≤ entry xs (TOP + k)
  pub caps : (k : ℕ) → k ≤ n → entry xs (CAPS + k) ≡ sum_to k (p.capacity t)
  -- and their ranges
  pub few : (k : ℕ) → k ≤ n → entry xs k ≤ k * MOST_PRICE
  pub low : (k : ℕ) → k ≤ n → entry xs (TOP + k) ≤ MOST_PRICE
  pub light : (k : ℕ) → k ≤ n → entry xs (CAPS + k) ≤ k * 1000000

-- ---- what is asked and given

-- what every function of a week has: a file, its week, prices and partners
pub record FreeAt (file : File) (us : List ℕ) (t : ℕ) : Type 0 where
  pub week : t < file.layout.weeks
  pub priced : Priced (problem file) us

-- unit i is to be looked at after the units below it, where all units give so much
pub record NeverDue (file : File) (t all i never : ℕ) : Type 0 where
  pub week : t < file.layout.weeks
  pub unit : i < file.layout.units
  pub all_is : all ≡ sum_to (problem file).units ((problem file).capacity t)
  pub so_far : NeverTo (problem file) t i (has never)

-- the price of a unit that may be out, 0 of one that may never
pub record OpenPrice (never i price r : ℕ) : Type 0 where
  pub out : has never i ≡ true → r ≡ 0
  pub open_is : has never i ≡ false → r ≡ price
  pub small : r ≤ price

-- the larger of two
pub record LargerOf (a b r : ℕ) : Type 0 where
  pub first : a ≤ r
  pub second : b ≤ r
  pub either : (r ≡ a) ⊎ (r ≡ b)

-- sums over the units below n, with the units that may never be out
pub record SumsDue (file : File) (us : List ℕ) (t : ℕ) (xs : List ℕ) (n : ℕ) : Type 0 where
  pub at : FreeAt file us t
  pub long : length xs ≡ SUMS
  pub sums : SumsTo (problem file) (price_in us) t n xs
  pub never : NeverTo (problem file) t (problem file).units (never_in xs)
  pub word : entry xs NEVER < 4294967296

-- the sums over the units below i, with unit i: its price, what it saves where it is out, and what it gives
pub record UnitAdded (p : Problem) (us : List ℕ) (t : ℕ) (xs : List ℕ) (i : ℕ) (r : SumsWith) : Type 0 where
  pub price : ℕ
  pub saves : ℕ
  pub given : ℕ
  pub price_is : price ≡ price_in us t i
  pub price_low : price ≤ MOST_PRICE
  pub given_is : given ≡ p.capacity t i
  pub given_low : given ≤ 1000000
  pub open_price : OpenPrice (entry xs NEVER) i price saves
  pub prices : r.prices ≡ entry xs i + price
  pub leaving : r.saved ≡ entry xs (OPEN + i) + saves
  pub top : LargerOf (entry xs (TOP + i)) saves r.top
  pub caps : r.caps ≡ entry xs (CAPS + i) + given

-- the node before any unit is decided
pub record AtRoot (p : Problem) (t : ℕ) (xs : List ℕ) (y : FreeNode) : Type 0 where
  pub week : y.week ≡ t
  pub need : y.need.0 ≡ p.demand t
  pub crews : y.crews ≡ p.crews
  pub few : y.crews ≤ 16
  pub bar : y.bar ≡ entry xs NEVER
  pub score : y.score.0 ≡ 0

-- what can be saved at most by units below k that are out: one of two numbers
pub record Savable (xs : List ℕ) (k crews r : ℕ) : Type 0 where
  pub either : (r ≡ entry xs (OPEN + k)) ⊎ (r ≡ crews * entry xs (TOP + k))

-- a node before its highest unit is decided
pub record NodeDue (file : File) (us xs : List ℕ) (k : ℕ) (y : FreeNode) : Type 0 where
  pub at : FreeAt file us y.week
  pub units : k ≤ file.layout.units
  pub sums : SumsTo (problem file) (price_in us) y.week file.layout.units xs
  pub never : (i : ℕ) → never_in xs i ≡ true → has y.bar i ≡ true
  pub few : y.crews ≤ 16
  pub small : y.score.0 + entry xs k ≤ MOST_WEEK_PRICES

-- the same as one fact: a search for a proof enters every record it meets, and leaves this alone
unfoldable pub NodeAt : (file : File) → (us xs : List ℕ) → ℕ → FreeNode → Type 0
NodeAt file us xs k y = NodeDue file us xs k y

-- the node's highest unit is i, and a crew is left for it
pub record TryAt (file : File) (us xs : List ℕ) (i : ℕ) (y : FreeNode) : Type 0 where
  pub at : FreeAt file us y.week
  pub unit : i < file.layout.units
  pub node : NodeAt file us xs (suc i) y
  pub crew : 0 < y.crews

-- unit i of a week may stay
pub record StayDue (file : File) (us : List ℕ) (i : ℕ) (y : FreeNode) : Type 0 where
  pub at : FreeAt file us y.week
  pub unit : i < file.layout.units
  pub small : y.score.0 ≤ MOST_WEEK_PRICES

-- v is at most what a node comes to
pub record NodeFloor (p : Problem) (us : List ℕ) (k : ℕ) (y : FreeNode) (v : ℕ) : Type 0 where
  pub floor : Floor p (price_in us) y.week k y.need.0 y.crews (has y.bar) y.score.0 v

-- what came of a node: at most what every choice from there comes to, and no more than the least before
pub record NodeDone (p : Problem) (us : List ℕ) (k : ℕ) (y : FreeNode) (low found : FreeWeek) : Type 0 where
  pub floor : NodeFloor p us k y found.value.0
  pub less : found.value.0 ≤ low.value.0

-- there is a unit to decide and a crew for it, and the least is as it was
pub record NodeOpen (k : ℕ) (y : FreeNode) (low found : FreeWeek) : Type 0 where
  pub same : found.value.0 ≡ low.value.0
  pub more : 0 < k
  pub crew : 0 < y.crews

-- what is seen of a node: it is done with, or open
abbrev pub Seen : Problem → List ℕ → ℕ → FreeNode → FreeWeek → Looked → Type 0
Seen p us k y low (Done found) = NodeDone p us k y low found
Seen p us k y low (Open found) = NodeOpen k y low found

-- the node with unit i staying
pub record Stays (p : Problem) (us : List ℕ) (i : ℕ) (y z : FreeNode) : Type 0 where
  pub week : z.week ≡ y.week
  pub need : z.need.0 ≡ y.need.0 - p.capacity y.week i
  pub crews : z.crews ≡ y.crews
  pub bar : z.bar ≡ y.bar
  pub score : z.score.0 ≡ y.score.0 + price_in us y.week i

-- who is barred once unit i is out as well
unfoldable pub barred : Problem → ℕ → NumSet → NumSet
barred p i bar j = bar j || apart p i j

-- the node with unit i out
pub record Leaves (p : Problem) (i : ℕ) (y z : FreeNode) : Type 0 where
  pub week : z.week ≡ y.week
  pub need : z.need.0 ≡ y.need.0
  pub crews : z.crews + 1 ≡ y.crews
  pub bar : (j : ℕ) → has z.bar j ≡ barred p i (has y.bar) j
  pub score : z.score.0 ≡ y.score.0

-- v is at most what a node comes to with unit i out, where that is to be tried: it is not barred, and its price is not 0
pub record OutFloor (p : Problem) (us : List ℕ) (i : ℕ) (y : FreeNode) (v : ℕ) : Type 0 where
  pub floor : has y.bar i ≡ false → 0 < price_in us y.week i
      → Floor p (price_in us) y.week i y.need.0 (y.crews - 1) (barred p i (has y.bar)) y.score.0 v

-- unit i was tried out, or need not be
pub record OutTried (p : Problem) (us : List ℕ) (i : ℕ) (y : FreeNode) (low found : FreeWeek) : Type 0 where
  pub floor : OutFloor p us i y found.value.0
  pub less : found.value.0 ≤ low.value.0
