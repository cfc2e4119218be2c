-- What a run remembers from one ask to the next: a number below which no sound schedule costs, and the plan at that number where one is known.
-- Both rules on later asks (document 01, "A run of asks") rest on these two. The number is exclusive, as the limit of a walk is.
-- Assumes nothing.
use Rattle.std.specs.Prelude.{ℕ, ◌+◌, ◌-◌, ◌≤◌, ◌<◌, max, ◌≡◌, Bool, true, false, ◌||◌, Option, Some, None, List, ltb, length}
use Rattle.model.specs.Problem.{Problem}
use Rattle.model.specs.Best.{Everywhere}
use Rattle.model.specs.Nogood.{MOST_LIMIT, Nogood}
use Rattle.model.specs.Answer.{Answer, optimal, infeasible, incumbent, unknown, Found, Correct}
use Rattle.model.specs.Asks.{Leaves}
use Rattle.nogood.specs.Stock.{Stock, Grown}
use Rattle.state.specs.declared.Walked.TheVariants.{Dead}
use Rattle.search.specs.declared.Reply.{Reply}
use Rattle.walk.specs.Walk.{TableTrue, AllSettled}
use Rattle.search.specs.Ask.{answer_of}
use Rattle.planner.specs.declared.Carry.{Carry}

-- ---- what it says

-- the reply is the plan at the least cost
pub record PlanKnown (p : Problem) (least : ℕ) (r : Reply) : Type 0 where
  pub starts : List ℕ
  pub runs : List ℕ
  pub is : answer_of p r ≡ optimal least starts runs
  pub found : Found p least Everywhere least starts runs
  pub small : r.state.limit.0 ≤ MOST_LIMIT

-- a carry is right
pub record Knows (p : Problem) (m : Carry) : Type 0 where
  pub least : AllSettled p m.least.0
  pub plan : (r : Reply) → m.plan ≡ Some r → PlanKnown p m.least.0 r

-- a plan is known
abbrev pub has_plan : Option Reply → Bool
has_plan (Some r) = true
has_plan None = false

-- an ask under ceiling d is settled by it
unfoldable pub settled_by : Carry → ℕ → Bool
settled_by m d = has_plan m.plan || ltb d m.least.0

-- its plan says this
pub record PlanSays (p : Problem) (m : Carry) (a : Answer) : Type 0 where
  pub plan : Reply
  pub is : m.plan ≡ Some plan
  pub says : answer_of p plan ≡ a

-- what was told under ceiling c is in it
abbrev pub Remembers : Problem → Carry → (c : ℕ) → Answer → Type 0
Remembers p m c (optimal k ss rs) = PlanSays p m (optimal k ss rs)
Remembers p m c infeasible = c < m.least.0
Remembers p m c (incumbent k ss rs mark) = Unit {0}
Remembers p m c (unknown mark) = Unit {0}

-- a carry before the first ask
pub record SaysNothing (m : Carry) : Type 0 where
  pub unknown : m.plan ≡ None
  pub least : m.least.0 ≡ 0
  pub words : m.used ≡ 0

-- ---- one ask

-- before an ask: the carry is right, and the table w holds what is true, in as many words as are used, and has one word more
pub record AskReady (p : Problem) (w : List ℕ) (m : Carry) : Type 0 where
  pub knows : Knows p m
  pub held : TableTrue p w m.used
  pub room : m.used < length w

-- a reply that says none, with so many words of the table in use
pub record SaysNone (used : ℕ) (r : Reply) : Type 0 where
  pub nothing : r.state.found ≡ false
  pub ended : r.walked ≡ Dead 0
  pub words : r.state.used ≡ used
  pub small : r.state.limit.0 ≤ MOST_LIMIT

-- a reply with another number of words in use
abbrev pub with_used : Reply → ℕ → Reply
with_used r used = record r { state = record r.state { used = used } }

-- the reply r to an ask under this ceiling and with this budget, by this carry, on a table w that has become w'
pub record Replied (p : Problem) (ceiling budget : ℕ) (m : Carry) (w w' : List ℕ) (r : Reply) : Type 0 where
  -- the answer is right
  pub correct : Correct p ceiling budget (answer_of p r)
  -- none below the least cost, the known plan from there on
  pub below : ceiling < m.least.0 → answer_of p r ≡ infeasible
  pub again : (q : Reply) → m.plan ≡ Some q → m.least.0 ≤ ceiling → answer_of p r ≡ answer_of p q
  -- what the table held stands there still, and behind it what the ask leaves
  pub stock : (gs : List Nogood) → Stock p gs w m.used → Grown p (Leaves (settled_by m ceiling) ceiling (answer_of p r)) gs w' r.state.used
  pub words : (n : ℕ) → m.used ≤ n → length w - 32 ≤ n → r.state.used ≤ n + 1
  pub long : length w' ≡ length w
  pub small : r.state.limit.0 ≤ MOST_LIMIT

-- what is remembered of an answer under ceiling c, in m' after m: a plan; that there is none; nothing
abbrev pub Keeps : (m : Carry) (c : ℕ) (r : Reply) (m' : Carry) → Answer → Type 0
Keeps m c r m' (optimal k ss rs) = (m'.plan ≡ Some r) × (m'.least.0 ≡ k)
Keeps m c r m' infeasible = (m'.plan ≡ m.plan) × (m'.least.0 ≡ max m.least.0 (c + 1))
Keeps m c r m' (incumbent k ss rs mark) = (m'.plan ≡ m.plan) × (m'.least.0 ≡ m.least.0)
Keeps m c r m' (unknown mark) = (m'.plan ≡ m.plan) × (m'.least.0 ≡ m.least.0)

-- the carry m' after the reply r under ceiling c
pub record Remembered (m : Carry) (c : ℕ) (r : Reply) (m' : Carry) : Type 0 where
  pub words : m'.used ≡ r.state.used
  pub keeps : (p : Problem) → Keeps m c r m' (answer_of p r)
