-- A memo of numbers in lent words: words taken in twos, each two an entry, a key and what is kept under it. What weeks' cheapest runs cost is kept
-- under the small keys; the keys from OTHERS on are another's.
-- Assumes nothing.
use Rattle.std.specs.Prelude.{ℕ, ◌+◌, ◌*◌, ◌≤◌, ◌<◌, ◌≡◌, List, ◌⊎◌, get_or, Option, Some, None}
use Rattle.sums.specs.NumSet.{has}
use Rattle.model.specs.Problem.{Problem}
use Rattle.model.specs.Commitment.{full_least}
use Rattle.sets.specs.Sets.{SETS}

-- entry e has this key, and v is kept under it; past the end all words count as 0
pub record Entry (memo : List ℕ) (e key v : ℕ) : Type 0 where
  pub under : get_or memo (e * 2) 0 ≡ key
  pub kept : get_or memo (e * 2 + 1) 0 ≡ v

-- v is kept under this key
pub record Present (memo : List ℕ) (key v : ℕ) : Type 0 where
  pub at : ℕ
  pub entry : Entry memo at key v

-- what is found under a key, if anything is
abbrev pub Looked : List ℕ → ℕ → Option ℕ → Type 0
Looked memo key None = Unit {0}
Looked memo key (Some v) = Present memo key v

-- each entry of the second memo is that of the first, or has this key and v
pub record Wrote (memo memo' : List ℕ) (key v : ℕ) : Type 0 where
  pub each : (e : ℕ) → Entry memo' e (get_or memo (e * 2) 0) (get_or memo (e * 2 + 1) 0) ⊎ Entry memo' e key v

-- 2 ^ 22: the first key that is another's
abbrev pub OTHERS : ℕ
OTHERS = 4194304

-- an entry of the second memo under another's key is one of the first
pub record Others (memo memo' : List ℕ) : Type 0 where
  pub same : (e : ℕ) → OTHERS ≤ get_or memo' (e * 2) 0 → Entry memo e (get_or memo' (e * 2) 0) (get_or memo' (e * 2 + 1) 0)

-- a week and the number of a set of 16 units as one number, never 0
unfoldable pub key_of : (t out : ℕ) → ℕ
key_of t out = t * SETS + out + 1

-- an entry under the key of a week, of 64 at most, and a set has that week's least cost; 0 is no such key
pub record Right (p : Problem) (memo : List ℕ) : Type 0 where
  pub holds : (e t out : ℕ) → t < 64 → out < SETS → get_or memo (e * 2) 0 ≡ key_of t out → get_or memo (e * 2 + 1) 0 ≡ full_least p t (has out)
