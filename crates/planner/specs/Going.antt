-- A run after some of its asks: demand 3 for those, with what the carry says of each (document 01, "A run of asks").
-- Assumes nothing.
use Rattle.std.specs.Prelude.{ℕ, ◌+◌, ◌-◌, ◌≤◌, ◌<◌, ◌≡◌, length, drop}
use mathlib.Core.List.{List, ◌++◌, flatten}
use Rattle.sums.specs.Range.{some_to}
use Rattle.model.specs.Problem.{Problem}
use Rattle.model.specs.Nogood.{Nogood}
use Rattle.model.specs.Answer.{Answer, Correct, blocks_of}
use Rattle.model.specs.Asks.{ceiling_at, budget_at, answer_at, Follows, settles, settled, Leaves, left_at}
use Rattle.nogood.specs.Stock.{Stock}
use Rattle.planner.specs.declared.Carry.{Carry}
use Rattle.planner.specs.Carry.{Knows, settled_by, Remembers}

-- the first k asks are answered in the words `answers`, which were lent as `lent`; the table and the carry are as they were left
pub record Going (p : Problem) (asks lent answers table : List ℕ) (m : Carry) (k : ℕ) : Type 0 where
  -- what each ask was told, and the nogoods that it left
  pub told : List Answer
  pub left : List (List Nogood)
  -- an answer stands in its block, is right for its own ceiling and budget, and follows from those before it
  pub each : length told ≡ k
  pub blocks : answers ≡ blocks_of p told ++ drop (length (blocks_of p told)) lent
  pub correct : (i : ℕ) → i < k → Correct p (ceiling_at asks i) (budget_at asks i) (answer_at told i)
  pub follows : (i j : ℕ) → i < j → j < k → Follows (ceiling_at asks i) (answer_at told i) (ceiling_at asks j) (answer_at told j)
  -- the table holds what the asks left, one after the other, and of its last 32 words one for each ask is used at most
  pub each_left : length left ≡ k
  pub stock : Stock p (flatten left) table m.used
  pub leaves : (i : ℕ) → i < k → Leaves (settled asks told i) (ceiling_at asks i) (answer_at told i) (left_at left i)
  pub room : m.used ≤ length table - 32 + k
  -- the carry is right, has what was told, and settles just what the asks so far settle
  pub knows : Knows p m
  pub recalls : (i : ℕ) → i < k → Remembers p m (ceiling_at asks i) (answer_at told i)
  pub settled_by_lem : (d : ℕ) → some_to k (λ j. settles (ceiling_at asks j) (answer_at told j) d) ≡ settled_by m d

-- ask k answered: whatever was lent, a run that had come to it has come to the next
pub record Turned (p : Problem) (asks answers table : List ℕ) (m : Carry) (k : ℕ) (answers' table' : List ℕ) (m' : Carry) : Type 0 where
  pub next : (lent : List ℕ) → Going p asks lent answers table m k → Going p asks lent answers' table' m' (k + 1)
