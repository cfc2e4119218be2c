-- The state of a walk: its small changes, the table of conflicts as it leaves it, and how it begins.
-- Assumes nothing.
use Rattle.std.specs.Prelude.{ℕ, ◌+◌, ◌≡◌, true, false, List, length, set, ltb}
use Rattle.sums.specs.Logic.{if}
use Rattle.sums.specs.NumSet.{has}
use Rattle.sums.specs.Table.{entry}
use Rattle.instance.specs.declared.Euro.{Euro}
use Rattle.nogood.specs.Noting.{nogood_for, noted_used, noted, end_used, ended}
use Rattle.state.specs.declared.State.{State}
use Rattle.state.specs.declared.Walked.{Walked}
use Rattle.state.specs.declared.Walked.TheVariants.{Dead, Spent}
use Rattle.state.specs.declared.Step.{Step}

-- 2 ^ 32 - 1: a word of 32 bits counts so many tries
abbrev pub MOST_TRIES : ℕ
MOST_TRIES = 4294967295

-- one try more
abbrev pub tried_once : State → State
tried_once st = record st { tries = st.tries + 1 }

-- the walk stops at the first k starts of xs
abbrev pub stopped_at : State → List ℕ → ℕ → Step
stopped_at st xs k = record { state = record st { mark = xs }; walked = Spent k }

-- a dead end of the units of b
abbrev pub dead_at : State → ℕ → Step
dead_at st b = record { state = st; walked = Dead b }

-- xs, at this cost, is the best so far
abbrev pub improved_by : State → List ℕ → Euro → State
improved_by st xs c = record st { best = xs; found = true; limit = c }

-- no schedule found and no try made, under this limit and with this budget
abbrev pub renewed_at : State → Euro → ℕ → State
renewed_at st c budget = record st { found = false; limit = c; tries = 0; budget = budget }

-- the same state under this limit
abbrev pub limited_to : State → Euro → State
limited_to st c = record st { limit = c }

-- another number of words is used, and conflicts end at other places
abbrev pub with_table : State → List ℕ → ℕ → State
with_table st ends used = record st { ends = ends; used = used }

-- 2 ^ 16: a word of 16 bits holds the places below it
abbrev pub INDEXED : ℕ
INDEXED = 65536

-- the places where conflicts end, with one more that ends at unit i, where it can be held
unfoldable pub indexed_at : List ℕ → (i end : ℕ) → List ℕ
indexed_at ends i end = if (ltb end INDEXED) (set ends i end) ends

-- the table w has become w', and the state r, where the dead end of the units of b below k was noted, or not
pub record DeadEndNoted (w w' : List ℕ) (st r : State) (xs : List ℕ) (k b : ℕ) : Type 0 where
  pub state : r ≡ with_table st r.ends r.used
  pub used : r.used ≡ noted_used (length w) st.used st.limit.0 (nogood_for (entry xs) (has b) k st.limit.0)
  pub table : w' ≡ noted w st.used st.limit.0 (nogood_for (entry xs) (has b) k st.limit.0)

-- the nogood without choices is noted under the state's last bound
abbrev pub NoneNoted : (w w' : List ℕ) (st r : State) → Type 0
NoneNoted w w' st r = (r ≡ with_table st st.ends (end_used st.used st.limit.0)) × (w' ≡ ended w st.used st.limit.0)

-- the same at the end of a walk, unless it is spent
abbrev pub EndNoted : (w w' : List ℕ) (st r : State) → Walked → Type 0
EndNoted w w' st r (Dead b) = NoneNoted w w' st r
EndNoted w w' st r (Spent m) = (r ≡ st) × (w' ≡ w)

-- a walk that has not begun, under a ceiling and with a budget
pub record WalkStart (ceiling budget words : ℕ) (st : State) : Type 0 where
  pub nothing : st.found ≡ false
  pub limit : st.limit.0 ≡ ceiling + 1
  pub tries : st.tries ≡ 0
  pub budget_is : st.budget ≡ budget
  pub used : st.used ≡ words
