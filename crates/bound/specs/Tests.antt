-- What the tests of a start say: it holds, and the units placed stand with this lower bound; or some units' starts are a dead end.
-- Assumes nothing.
use Rattle.std.specs.Prelude.{ℕ, ◌+◌, ◌-◌, ◌%◌, ◌≤◌, ◌<◌, ◌≡◌, Bool, true, false, List, length, get_or, eqb, Result, Ok, Err}
use Rattle.sums.specs.Range.{some_to}
use Rattle.sums.specs.NumSet.{NumSet, has, with}
use Rattle.sums.specs.Table.{entry}
use Rattle.sets.specs.Sets.{SETS}
use Rattle.model.specs.Problem.{Problem}
use Rattle.model.specs.Domain.{permitted, start_count}
use Rattle.model.specs.Rules.{headcount}
use Rattle.model.specs.Schedule.{out_in}
use Rattle.model.specs.Commitment.{full_least, NO_RUN}
use Rattle.model.specs.Plan.{Compatible}
use Rattle.model.specs.Nogood.{MOST_LIMIT}
use Rattle.instance.specs.declared.file.File.{File}
use Rattle.instance.specs.File.{problem}
use Rattle.instance.specs.declared.Euro.{Euro}
use Rattle.commitment.specs.Tally.{Tallies}
use Rattle.blame.specs.Closed.{Closed}
use Rattle.blame.specs.Placed.{out_of, partly, Standing, run_at}
use Rattle.blame.specs.Priced.{WeekLeast}
use Rattle.tables.specs.Tables.{price_in, excess_in, root_in, total_in}
use Rattle.relaxation.specs.Relaxed.{MemoTrue}
use Rattle.dual.specs.declared.Node.{Node}
use Rattle.dual.specs.Dual.{Dual, Bounds}
use Rattle.dual.specs.Blame.{placed_after, PermitsOf, with_bound}
use Rattle.bound.specs.Rows.{tally_of, Rows}

-- ---- what bounds come to

-- what all overhauls come to at least is no more: 16 words of 32 bits
abbrev pub MOST_LEAST : ℕ
MOST_LEAST = 68719476736

-- a lower bound is no more: 16 overhauls and 52 weeks at their dearest
abbrev pub MOST_BOUND : ℕ
MOST_BOUND = 18253611008

-- ---- dead ends

-- the starts of the units of b, all of a, are a dead end below the limit
pub record Blames (p : Problem) (a : NumSet) (starts : ℕ → ℕ) (limit b : ℕ) : Type 0 where
  pub closed : Closed p (has b) starts limit
  pub within : (i : ℕ) → has b i ≡ true → a i ≡ true

-- the starts of these units, all of a, are a dead end below every limit: no sound schedule has them
pub record Shuts (p : Problem) (a : NumSet) (starts : ℕ → ℕ) (b : ℕ) : Type 0 where
  pub blames : (limit : ℕ) → Blames p a starts limit b

-- the units of b may not be out together in week t: starts that say so are a dead end below every limit
pub record OutShuts (p : Problem) (t b : ℕ) : Type 0 where
  pub closed : (starts : ℕ → ℕ) → ((i : ℕ) → has b i ≡ true → out_in p starts t i ≡ true) → (limit : ℕ) → Closed p (has b) starts limit

-- ---- a week

-- a word of week t with the tally of the units out, all of the problem, who may be out together
pub record WeekDue (p : Problem) (t word : ℕ) : Type 0 where
  pub tally : Tallies p t (tally_of word)
  pub within : (i : ℕ) → has (word % SETS) i ≡ true → i < p.units
  pub compatible : Compatible p (has (word % SETS))

-- there are crews for the units out in week t, the others leave a run, and the week is worth at least v
pub record OutHolds (p : Problem) (u : ℕ → ℕ → ℕ) (t : ℕ) (a : NumSet) (v : ℕ) : Type 0 where
  pub crewed : headcount p a ≤ p.crews
  pub serves : full_least p t a < NO_RUN
  pub least : WeekLeast p u t a v
  pub small : v ≤ NO_RUN

-- the test of who is out in a week; where it fails all of them are to blame
abbrev pub OutTested : Problem → (u : ℕ → ℕ → ℕ) → (t out : ℕ) → Result Euro ℕ → Type 0
OutTested p u t out (Ok r) = OutHolds p u t (has out) r.0
OutTested p u t out (Err b) = (b ≡ out) × OutShuts p t b

-- the units of b, all of a or unit j, may not be out together in week t
pub record WeekShuts (p : Problem) (a : NumSet) (j t b : ℕ) : Type 0 where
  pub within : (i : ℕ) → has b i ≡ true → with a j i ≡ true
  pub shuts : OutShuts p t b

-- week t holds with unit j out as well, and is worth at least v
pub record WeekHolds (p : Problem) (u : ℕ → ℕ → ℕ) (a : NumSet) (j t v : ℕ) : Type 0 where
  pub compatible : Compatible p (with a j)
  pub serves : full_least p t (with a j) < NO_RUN
  pub least : WeekLeast p u t (with a j) v
  pub small : v ≤ NO_RUN

-- the test of a week, by the word with its tally
abbrev pub WeekTested : Problem → (u : ℕ → ℕ → ℕ) → (j t word : ℕ) → Result Euro ℕ → Type 0
WeekTested p u j t word (Ok r) = WeekHolds p u (has (word % SETS)) j t r.0
WeekTested p u j t word (Err b) = WeekShuts p (has (word % SETS)) j t b

-- ---- the weeks of an overhaul

-- unit j is to be placed at its permitted start, after the units of a, whom the rows hold
pub record Due (p : Problem) (rows : List ℕ) (a : NumSet) (starts : ℕ → ℕ) (j : ℕ) : Type 0 where
  pub unit : j < p.units
  pub permits : permitted p j (starts j) ≡ true
  pub fresh : a j ≡ false
  pub within : (i : ℕ) → a i ≡ true → i < p.units
  pub tallied : Rows p (out_of p a starts) rows

-- the node's unit is one of the problem's, at a permitted start
pub record StartPermitted (p : Problem) (node : Node) : Type 0 where
  pub unit : node.unit < p.units
  pub permits : permitted p node.unit (entry node.starts node.unit) ≡ true

-- the weeks of its overhaul
pub record OverhaulWeeks (p : Problem) (node : Node) (first end : ℕ) : Type 0 where
  pub start : entry node.starts node.unit ≡ first + 1
  pub last : end ≡ first + p.duration node.unit
  pub season : end ≤ p.weeks

-- unit j out in the weeks of its overhaul before week t: in each week the units out may be out together and leave a run, and r is a lower bound
pub record TestedTo (p : Problem) (us : List ℕ) (a : NumSet) (starts : ℕ → ℕ) (j t : ℕ) (xs : List ℕ) (r : ℕ) : Type 0 where
  pub compatible : (q : ℕ) → q < p.weeks → Compatible p (partly p a starts j (t + 1 - starts j) q)
  pub served : (q : ℕ) → q < p.weeks → full_least p q (partly p a starts j (t + 1 - starts j) q) < NO_RUN
  pub bounds : Bounds p us (with a j) starts xs r

-- week t as well, or a dead end below every limit
abbrev pub WeeksTested : Problem → (us : List ℕ) → (a : NumSet) → (starts : ℕ → ℕ) → (j t : ℕ) → List ℕ → Result Euro ℕ → Type 0
WeeksTested p us a starts j t xs (Ok r) = TestedTo p us a starts j (t + 1) xs r.0
WeeksTested p us a starts j t xs (Err b) = Shuts p (with a j) starts b

-- the test of the weeks of unit j's overhaul, as far as the bound stays below what is wanted
abbrev pub Tested : Problem → (us : List ℕ) → (a : NumSet) → (starts : ℕ → ℕ) → (j wanted : ℕ) → List ℕ → Result Euro ℕ → Type 0
Tested p us a starts j wanted xs (Ok r) = Bounds p us (with a j) starts xs r.0 × (r.0 < wanted → Standing p (with a j) starts)
Tested p us a starts j wanted xs (Err b) = Shuts p (with a j) starts b

-- ---- a start

-- the units of a stand, and r is a lower bound of all schedules with their starts, by the weeks' values
pub record Stands (p : Problem) (us : List ℕ) (a : NumSet) (starts : ℕ → ℕ) (xs : List ℕ) (r : ℕ) : Type 0 where
  pub standing : Standing p a starts
  pub bounds : Bounds p us a starts xs r

-- a start is judged: one unit more stands; or some of them are a dead end
abbrev pub Judged : Problem → (us : List ℕ) → Node → (limit : ℕ) → List ℕ → Result Euro ℕ → Type 0
Judged p us node limit xs (Ok r) = Stands p us (placed_after node) (entry node.starts) xs r.0
Judged p us node limit xs (Err b) = Blames p (placed_after node) (entry node.starts) limit b

-- ---- what the functions ask

-- a bound to which a start of the node's unit can be added
pub record StartBounded (node : Node) : Type 0 where
  pub unit : node.unit < 16
  pub start : get_or node.starts node.unit 0 < 64
  pub small : node.bound.0 ≤ MOST_BOUND

-- with that start
abbrev pub with_start : List ℕ → Node → Node
with_start us node = with_bound node (record { 0 = node.bound.0 + excess_in us node.unit (entry node.starts node.unit) })

-- before the weeks of an overhaul: the node's unit is due, those placed stand, and the node's bound has its start in it
pub record StartDue (file : File) (us rows : List ℕ) (node : Node) (xs memo : List ℕ) : Type 0 where
  pub dual : Dual (problem file) us
  pub due : Due (problem file) rows (has node.placed) (entry node.starts) node.unit
  pub standing : Standing (problem file) (has node.placed) (entry node.starts)
  pub bounds : Bounds (problem file) us (placed_after node) (entry node.starts) xs node.bound.0
  pub recalls : MemoTrue (problem file) (price_in us) memo

-- before week t of it: the weeks before are tested, at the node's bound
pub record WeeksDue (file : File) (us rows : List ℕ) (node : Node) (t : ℕ) (xs memo : List ℕ) : Type 0 where
  pub dual : Dual (problem file) us
  pub due : Due (problem file) rows (has node.placed) (entry node.starts) node.unit
  pub standing : Standing (problem file) (has node.placed) (entry node.starts)
  pub from : entry node.starts node.unit ≤ t + 1
  pub before : t + 1 < entry node.starts node.unit + (problem file).duration node.unit
  pub season : t < file.layout.weeks
  pub tested : TestedTo (problem file) us (has node.placed) (entry node.starts) node.unit t xs node.bound.0
  pub recalls : MemoTrue (problem file) (price_in us) memo

-- a bound with the weeks that is to be weighed against a limit
pub record Weighing (file : File) (us : List ℕ) (node : Node) (total : Euro) (limit : ℕ) (xs : List ℕ) : Type 0 where
  pub dual : Dual (problem file) us
  pub unit : node.unit < file.layout.units
  pub permits : PermitsOf (problem file) (placed_after node) (entry node.starts)
  pub tested : Tested (problem file) us (has node.placed) (entry node.starts) node.unit (limit + total_in us) xs (Ok total)
  pub small : limit ≤ MOST_LIMIT

-- before the start of the node's unit is tested: those placed stand at the node's bound
pub record TestDue (file : File) (us rows : List ℕ) (node : Node) (limit : ℕ) (xs memo : List ℕ) : Type 0 where
  pub dual : Dual (problem file) us
  pub due : Due (problem file) rows (has node.placed) (entry node.starts) node.unit
  pub stands : Stands (problem file) us (has node.placed) (entry node.starts) xs node.bound.0
  pub small : limit ≤ MOST_LIMIT
  pub recalls : MemoTrue (problem file) (price_in us) memo

-- before any unit is placed
pub record RootDue (file : File) (us : List ℕ) (limit : ℕ) : Type 0 where
  pub dual : Dual (problem file) us
  pub small : limit ≤ MOST_LIMIT

-- ---- before any unit is placed

-- r is a lower bound, whatever the starts
pub record AllStand (p : Problem) (us xs : List ℕ) (r : ℕ) : Type 0 where
  pub each : (starts : ℕ → ℕ) → Stands p us (has 0) starts xs r

-- nothing is left below the limit
pub record AllBlame (p : Problem) (limit b : ℕ) : Type 0 where
  pub each : (starts : ℕ → ℕ) → Blames p (has 0) starts limit b

-- the weeks' values with nobody out
pub record RootValues (us xs : List ℕ) : Type 0 where
  pub long : length xs ≡ 52
  pub each : (t : ℕ) → t < 52 → entry xs t ≡ root_in us t

-- no unit is placed, whatever the starts: r is a lower bound; or nothing is left below the limit, and nobody is to blame
abbrev pub Rooted : Problem → (us : List ℕ) → ℕ → Result Euro ℕ → Type 0
Rooted p us limit (Ok r) = (xs : List ℕ) → RootValues us xs → AllStand p us xs r.0
Rooted p us limit (Err b) = AllBlame p limit b

-- unit i has no permitted start
unfoldable pub no_start : Problem → ℕ → Bool
no_start p i = eqb (start_count p i) 0

-- some unit has none
unfoldable pub some_startless : Problem → Bool
unfolding no_start
some_startless p = some_to p.units (no_start p)

-- ---- all units placed

-- every unit's start is permitted
pub record Permits (p : Problem) (starts : ℕ → ℕ) : Type 0 where
  pub each : (i : ℕ) → i < p.units → permitted p i (starts i) ≡ true

-- the cheapest runs of all weeks, with the units out that these starts say
pub record RunsOf (p : Problem) (starts : ℕ → ℕ) (runs : List ℕ) : Type 0 where
  pub each : (t : ℕ) → t < p.weeks → get_or runs t 0 ≡ run_at p starts t
