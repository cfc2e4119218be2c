-- The choice of further units out in a week, depth first: what is known of a set of units from which it goes on, and how far it has gone.
-- Assumes nothing.
use Rattle.std.specs.Prelude.{ℕ, ◌+◌, ◌≤◌, ◌<◌, ◌≡◌, true, ◌||◌, List, ◌⊎◌, eqb, get_or}
use Rattle.sums.specs.Sum.{sum_to}
use Rattle.sums.specs.NumSet.{NumSet, only_in, complement, has}
use Rattle.model.specs.Problem.{Problem}
use Rattle.model.specs.Rules.{headcount}
use Rattle.model.specs.Commitment.{NO_RUN, Serves, full_cost, full_least}
use Rattle.model.specs.Plan.{Compatible}
use Rattle.instance.specs.declared.file.File.{File}
use Rattle.instance.specs.File.{problem}
use Rattle.tables.specs.Tables.{MOST_WEEK_PRICES, price_in}
use Rattle.memo.specs.Memo.{Right}
use Rattle.relaxation.specs.Relaxed.{WeekAt}
use Rattle.relaxation.specs.declared.WeekNode.{WeekNode}

-- what the prices in week t of the units below k come to, of those not in a
unfoldable pub prices_not_out : (ℕ → ℕ → ℕ) → ℕ → NumSet → ℕ → ℕ
prices_not_out u t a k = sum_to k (only_in (complement a) (u t))

-- x has the units of o, and from unit k on no other
pub record Reach (p : Problem) (o : NumSet) (k : ℕ) (x : NumSet) : Type 0 where
  pub all : (i : ℕ) → i < p.units → o i ≡ true → x i ≡ true
  pub same : (i : ℕ) → k ≤ i → i < p.units → x i ≡ true → o i ≡ true

-- v is at most what week t is worth with any set out that has the units of o, and from unit k on no other
pub record Floor (p : Problem) (u : ℕ → ℕ → ℕ) (t : ℕ) (o : NumSet) (k v : ℕ) : Type 0 where
  pub below : (x : NumSet) (r : ℕ) → Compatible p x → Reach p o k x → Serves p t x r → v ≤ full_cost p t r + prices_not_out u t x p.units

-- one unit more: a number that counts for the sets whose further units lie below i has given way to one, no larger, that counts with unit i too
pub record Lowers (p : Problem) (u : ℕ → ℕ → ℕ) (t : ℕ) (o : NumSet) (i low v : ℕ) : Type 0 where
  pub less : v ≤ low
  pub next : Floor p u t o i low → Floor p u t o (i + 1) v

-- no compatible set with the units of o has unit i
pub record Barred (p : Problem) (o : NumSet) (i : ℕ) : Type 0 where
  pub never : (x : NumSet) → Compatible p x → ((j : ℕ) → j < p.units → o j ≡ true → x j ≡ true) → x i ≡ true → ⊥

-- unit i need not be tried with those of o: it is one of them, or its price is 0, or it may not be out with them
abbrev pub Needless : Problem → (ℕ → ℕ → ℕ) → ℕ → NumSet → ℕ → Type 0
Needless p u t o i = (o i ≡ true) ⊎ ((u t i ≡ 0) ⊎ Barred p o i)

-- units that need not be tried, those of o below n among them
pub record NeedlessUnits (p : Problem) (u : ℕ → ℕ → ℕ) (t : ℕ) (o : NumSet) (n shut : ℕ) : Type 0 where
  pub needless : (i : ℕ) → i < p.units → has shut i ≡ true → Needless p u t o i
  pub own : (i : ℕ) → i < n → o i ≡ true → has shut i ≡ true

-- the crews allow at most so many more units out
pub record CrewsLeft (p : Problem) (o : NumSet) (room : ℕ) : Type 0 where
  pub most : p.crews ≤ headcount p o + room

-- what the cheapest run of a week and the prices of the units not out come to at most
abbrev pub MOST_VALUE : ℕ
MOST_VALUE = 536870912

-- what is known of a set of units out in a week
pub record NodeKnown (p : Problem) (u : ℕ → ℕ → ℕ) (y : WeekNode) : Type 0 where
  pub rest : y.rest.0 ≡ prices_not_out u y.week (has y.out) p.units
  pub value : y.value.0 ≡ full_least p y.week (has y.out) + y.rest.0
  pub small : y.value.0 ≤ MOST_VALUE
  pub room : CrewsLeft p (has y.out) y.room
  pub shut : NeedlessUnits p u y.week (has y.out) p.units y.shut

-- at place k, up to n, what the prices of the units below k come to, of those not in a
pub record PricesLeft (u : ℕ → ℕ → ℕ) (t : ℕ) (a : NumSet) (n : ℕ) (left : List ℕ) : Type 0 where
  pub sums : (k : ℕ) → k ≤ n → get_or left k 0 ≡ prices_not_out u t a k

-- at place k, up to n, no less than that
pub record PricesLeftAtLeast (u : ℕ → ℕ → ℕ) (t : ℕ) (a : NumSet) (n : ℕ) (left : List ℕ) : Type 0 where
  pub enough : (k : ℕ) → k ≤ n → prices_not_out u t a k ≤ get_or left k 0
  pub small : (k : ℕ) → k ≤ n → get_or left k 0 ≤ MOST_WEEK_PRICES

-- prices that come to so much cannot bring a value below the best so far: it is 0, or they do not pay
pub record NoGain (low left value : ℕ) : Type 0 where
  pub why : (low ≡ 0) ⊎ (low + left ≤ value)

-- unit i, as the highest of further units, need not be tried against the best so far: it is shut, or the prices up to it cannot pay
pub record Skipped (left : List ℕ) (i : ℕ) (y : WeekNode) (low : ℕ) : Type 0 where
  pub why : (has y.shut i ≡ true) ⊎ NoGain low (get_or left (i + 1) 0) y.value.0

-- z is y with unit i out as well, which has this price and these partners; the cheapest run then costs this much
pub record Child (price partners i : ℕ) (y : WeekNode) (out cost : ℕ) (z : WeekNode) : Type 0 where
  pub week : z.week ≡ y.week
  pub out_is : z.out ≡ out
  pub shut : (k : ℕ) → has z.shut k ≡ ((has y.shut k || eqb k i) || has partners k)
  pub room : z.room + 1 ≡ y.room
  pub rest : z.rest.0 + price ≡ y.rest.0
  pub value : z.value.0 ≡ cost + z.rest.0

-- what is known of y with unit i out as well
pub record WithUnit (p : Problem) (u : ℕ → ℕ → ℕ) (i : ℕ) (y z : WeekNode) : Type 0 where
  pub known : NodeKnown p u z
  pub week : z.week ≡ y.week
  pub sets : (k : ℕ) → has z.out k ≡ (has y.out k || eqb k i)

-- a week before others are tried: the prices left, and what the cheapest run with just these units out costs
pub record Beginning (file : File) (xs left : List ℕ) (t out cost : ℕ) : Type 0 where
  pub at : WeekAt file xs t
  pub sums : PricesLeft (price_in xs) t (has out) file.layout.units left
  pub is : cost ≡ full_least (problem file) t (has out)
  pub small : cost < NO_RUN

-- what is known of just these units
pub record RootNode (p : Problem) (u : ℕ → ℕ → ℕ) (t out cost : ℕ) (y : WeekNode) : Type 0 where
  pub known : NodeKnown p u y
  pub week : y.week ≡ t
  pub same : y.out ≡ out
  pub value : y.value.0 ≡ cost + prices_not_out u t (has out) p.units

-- a choice that goes on from the units of y, with the prices left and a memo of least costs
pub record Choosing (file : File) (xs left : List ℕ) (y : WeekNode) (memo : List ℕ) : Type 0 where
  pub at : WeekAt file xs y.week
  pub right : Right (problem file) memo
  pub known : NodeKnown (problem file) (price_in xs) y
  pub spare : PricesLeftAtLeast (price_in xs) y.week (has y.out) file.layout.units left
