-- Rows: a file and what is claimed of it, of all its schedules, starts, runs, places or runs of asks. The worked figures marked P as rows.
-- Assumes nothing.
use Rattle.std.specs.Prelude.{ℕ, ◌^◌, ◌≤◌, ◌≡◌, Bool, false, ◌||◌, List, [], ◌∷◌, ◌++◌, length, eqb}
use Rattle.sums.specs.Range.{count_to}
use Rattle.sums.specs.NumSet.{has}
use Rattle.model.specs.Judgement.{breaks, judge_of}
use Rattle.model.specs.Domain.{permitted}
use Rattle.model.specs.Schedule.{Schedule, Sound}
use Rattle.model.specs.Commitment.{serves, Pick, IsPick, least_cost, full_least, off_cost}
use Rattle.model.specs.Prefix.{ValidPrefix, prefixes, rank, space_bound}
use Rattle.model.specs.Words.{problem_of}
use Rattle.model.specs.Verdict.{accepted}
use Rattle.model.specs.Reading.{read_of}
use Rattle.model.specs.Best.{Everywhere, NoneAllowed}
use Rattle.model.specs.Nogood.{Nogood, Legal, Holds, IsNogood}
use Rattle.model.specs.Answer.{Answer, Found, Correct}
use Rattle.model.specs.Asks.{Ran}
use Rattle.claims.specs.Files.{file_a, file_four, file_one, file_long, file_two, file_gap}

-- a claim about a file's problem
pub data Claim : Type 0 where
  -- the earliest of the cheapest schedules: starts, runs, cost
  cheapest : List ℕ → List ℕ → ℕ → Claim
  -- no schedule at or below a ceiling; no schedule at all
  none_at : ℕ → Claim
  none : Claim
  -- a conflict is true; it is false, by this schedule's starts and runs
  conflict : Nogood → Claim
  no_conflict : Nogood → List ℕ → List ℕ → Claim
  -- so many of all sets of units, with nobody out, meet the demand of a week
  meeting : ℕ → ℕ → Claim
  -- the permitted starts of a unit
  starts : ℕ → List ℕ → Claim
  -- the rule that the judge names for a grid
  rule : List ℕ → ℕ → Claim
  -- the number of places and the sizing figure; a place's rank
  places : ℕ → ℕ → Claim
  ranked : List ℕ → ℕ → Claim
  -- of a week and the number of a set of units out: this is its cheapest run, or there is none; it is not
  week : ℕ → ℕ → Pick → Claim
  not_week : ℕ → ℕ → Pick → Claim
  -- what it costs, what it costs with OFF charged to the units out too, and what these would cost OFF
  week_costs : (t out least full off : ℕ) → Claim
  -- the answer is right for a ceiling and a budget; it is wrong
  right : ℕ → ℕ → Answer → Claim
  wrong : ℕ → ℕ → Answer → Claim
  -- a conflict that may stand in a table; one that may not
  noted : Nogood → Claim
  unfit : Nogood → Claim
  -- these asks, with what each is told and leaves, may end with these answer words and this table
  ran : List ℕ → List Answer → List (List Nogood) → List ℕ → List ℕ → Claim
  -- these asks may not end with these answer words, whatever the table: they tell what is right for the other asks alone
  wrong_answers : List ℕ → List Answer → List ℕ → List ℕ → Claim
  -- these asks, told what is right, may not end with this table of these conflicts
  wrong_table : List ℕ → List Answer → List Nogood → List ℕ → List ℕ → Claim

-- a file, word by word, and what is claimed of its problem
pub record Row : Type 0 where
  pub file : List ℕ
  pub claim : Claim

-- the same, shorter
abbrev pub on : List ℕ → Claim → Row
on file claim = record { file = file; claim = claim }

-- v is among the numbers
unfoldable pub member : ℕ → List ℕ → Bool
member v [] = false
member v (x ∷ xs) = eqb v x || member v xs

-- nobody is out
unfoldable pub nobody : ℕ → Bool
nobody i = false

-- ---- runs of asks

-- a run ends with these answers, behind them the lent words beyond, and this table, whatever the lent words held
abbrev pub Meets : (file asks answers table : List ℕ) → Type 0
Meets file asks answers table = (old kept table₀ scratch₀ scratch : List ℕ)
    → length old ≡ length answers → length table₀ ≡ length table → 2 ^ (problem_of file).units ≤ length scratch₀
    → Ran accepted file asks (old ++ kept) table₀ scratch₀ (answers ++ kept) table scratch

-- no run ends with these answers and this table
abbrev pub Refuses : (file asks answers table : List ℕ) → Type 0
Refuses file asks answers table = (answers₀ table₀ scratch₀ scratch : List ℕ)
    → Ran accepted file asks answers₀ table₀ scratch₀ answers table scratch → ⊥

-- ---- rows

-- what each kind of claim says
abbrev pub Claimed : List ℕ → Claim → Type 0
Claimed f (cheapest ss rs c) = Found (problem_of f) c Everywhere c ss rs
Claimed f (none_at ceiling) = NoneAllowed (problem_of f) ceiling Everywhere
Claimed f none = (s : Schedule) → Sound (problem_of f) s → ⊥
Claimed f (conflict g) = Legal (problem_of f) 0 g.choices × Holds (problem_of f) g
Claimed f (no_conflict g ss rs) = Holds (problem_of f) g → ⊥
Claimed f (meeting t n) = count_to (2 ^ (problem_of f).units) (serves (problem_of f) t nobody) ≡ n
Claimed f (starts i ss) = (s : ℕ) → permitted (problem_of f) i s ≡ member s ss
Claimed f (rule grid n) = judge_of f grid ≡ breaks n
Claimed f (places n figure) = (prefixes (problem_of f) ≡ n) × (space_bound (problem_of f) ≡ figure)
Claimed f (ranked ss n) = ValidPrefix (problem_of f) ss × (rank (problem_of f) ss ≡ n)
Claimed f (week t out x) = IsPick (problem_of f) t (has out) x
Claimed f (not_week t out x) = IsPick (problem_of f) t (has out) x → ⊥
Claimed f (week_costs t out least full off) =
    (least_cost (problem_of f) t (has out) ≡ least) × (full_least (problem_of f) t (has out) ≡ full) × (off_cost (problem_of f) t (has out) ≡ off)
Claimed f (right c b a) = Correct (problem_of f) c b a
Claimed f (wrong c b a) = Correct (problem_of f) c b a → ⊥
Claimed f (noted g) = IsNogood (problem_of f) g
Claimed f (unfit g) = IsNogood (problem_of f) g → ⊥
Claimed f (ran asks told left answers table) = Meets f asks answers table
Claimed f (wrong_answers asks told others answers) = (table : List ℕ) → Refuses f asks answers table
Claimed f (wrong_table asks told gs answers table) = Refuses f asks answers table

-- every row's file is accepted, and its claim holds
abbrev pub All : List Row → Type 0
All [] = Unit {0}
All (r ∷ rs) = ((read_of r.file ≡ accepted) × Claimed r.file r.claim) × All rs

-- unit 1 at start 1
abbrev pub first_at_one : ℕ → Nogood
first_at_one bound = record { bound = bound; choices = record { unit = 0; start = 1 } ∷ [] }

-- P1 to P11
abbrev pub rows : List Row
rows =
    -- P1
    record { file = file_a; claim = cheapest (2 ∷ 1 ∷ []) (1 ∷ 2 ∷ 1 ∷ []) 19 }
    -- P2
    ∷ record { file = file_a; claim = none_at 18 }
    -- P3
    ∷ record { file = file_a; claim = conflict (first_at_one 20) }
    ∷ record { file = file_a; claim = no_conflict (first_at_one 21) (1 ∷ 3 ∷ []) (2 ∷ 1 ∷ 1 ∷ []) }
    -- P4
    ∷ record { file = file_four; claim = meeting 0 3 }
    -- P5
    ∷ record { file = file_one 0; claim = cheapest (1 ∷ []) (0 ∷ []) 7 }
    -- P6
    ∷ record { file = file_one 1; claim = none }
    -- P7
    ∷ record { file = file_long; claim = starts 0 (1 ∷ 2 ∷ []) }
    -- P8
    ∷ record { file = file_two; claim = none }
    -- P9
    ∷ record { file = file_gap; claim = rule (2 ∷ 0 ∷ 2 ∷ []) 4 }
    -- P10
    ∷ record { file = file_gap; claim = rule (0 ∷ 0 ∷ 0 ∷ []) 6 }
    -- P11
    ∷ record { file = file_a; claim = places 12 12 }
    ∷ record { file = file_a; claim = ranked (2 ∷ 1 ∷ []) 5 }
    ∷ []
