-- A week at prices as places: every unit is one, in the file's order. A unit that is out already gives nothing and costs its OFF cost in every state,
-- as the full cost of a run has it; another pays its price unless it is OUT.
-- Assumes nothing.
use Rattle.std.specs.Prelude.{ℕ, ◌+◌, ◌*◌, ◌≤◌, ◌<◌, ◌≡◌, true, ◌⊎◌, List, length, get_or}
use Rattle.sums.specs.Logic.{if}
use Rattle.sums.specs.NumSet.{NumSet, has}
use Rattle.model.specs.Problem.{Problem}
use Rattle.model.specs.Rules.{headcount}
use Rattle.model.specs.Plan.{Compatible}
use Rattle.instance.specs.declared.file.File.{File}
use Rattle.instance.specs.File.{problem}
use Rattle.tables.specs.Tables.{price_in, partners_in, Priced}
use Rattle.states.specs.SearchTables.{CostsInRange, MOST_SCORE}
use Rattle.states.specs.declared.Costs.{Costs}
use Rattle.states.specs.declared.StateNode.{StateNode}
use Rattle.states.specs.declared.WeekTask.{WeekTask}

-- costs are so many times as large in the search
abbrev pub SCALE : ℕ
SCALE = 4096

-- ---- what a unit gives and costs in week t with the units of a out

unfoldable pub place_cap : Problem → ℕ → NumSet → ℕ → ℕ
place_cap p t a i = if (a i) 0 (p.capacity t i)

unfoldable pub place_on : Problem → (ℕ → ℕ → ℕ) → ℕ → NumSet → ℕ → ℕ
place_on p u t a i = if (a i) (p.off t i) (p.running t i + u t i) * SCALE

unfoldable pub place_off : Problem → (ℕ → ℕ → ℕ) → ℕ → NumSet → ℕ → ℕ
place_off p u t a i = if (a i) (p.off t i) (p.off t i + u t i) * SCALE

unfoldable pub place_out : Problem → ℕ → ℕ → ℕ
place_out p t i = p.off t i * SCALE

-- the first n places of a row, and 0 behind them
pub record PlacedTo (f : ℕ → ℕ) (n : ℕ) (xs : List ℕ) : Type 0 where
  pub long : length xs ≡ 16
  pub each : (i : ℕ) → i < n → get_or xs i 0 ≡ f i
  pub rest : (i : ℕ) → n ≤ i → get_or xs i 0 ≡ 0

-- the costs of the first n units, with the partners of each as the places with which it clashes
pub record PlacesTo (p : Problem) (xs : List ℕ) (t : ℕ) (a : NumSet) (n : ℕ) (c : Costs) : Type 0 where
  pub caps : PlacedTo (place_cap p t a) n c.caps
  pub ons : PlacedTo (place_on p (price_in xs) t a) n c.ons
  pub offs : PlacedTo (place_off p (price_in xs) t a) n c.offs
  pub outs : PlacedTo (place_out p t) n c.outs
  pub clashes : PlacedTo (partners_in xs) n c.clashes
  pub most : CostsInRange c

-- ---- what is known of the units out

-- the units of a are shut; another shut unit that may be out with them has no price; crews allow at most so many more
pub record OutKnown (p : Problem) (u : ℕ → ℕ → ℕ) (t : ℕ) (a : NumSet) (shut room : ℕ) : Type 0 where
  pub own : (i : ℕ) → i < p.units → a i ≡ true → has shut i ≡ true
  pub free : (out : NumSet) → Compatible p out → ((i : ℕ) → i < p.units → a i ≡ true → out i ≡ true) → (i : ℕ) → i < p.units
      → has shut i ≡ true → out i ≡ true → (a i ≡ true) ⊎ (u t i ≡ 0)
  pub crews : p.crews ≤ headcount p a + room

-- a week of a file at the prices of a table
pub record WeekDue (file : File) (xs : List ℕ) (w : WeekTask) : Type 0 where
  pub week : w.week < file.layout.weeks
  pub priced : Priced (problem file) xs
  pub known : OutKnown (problem file) (price_in xs) w.week (has w.out) w.shut w.room
  pub small : w.most.0 * SCALE ≤ MOST_SCORE

-- the node of a week before any unit is decided
pub record WeekNodeIs (p : Problem) (w : WeekTask) (y : StateNode) : Type 0 where
  pub need : y.need ≡ p.demand w.week
  pub crews : y.crews ≤ 16
  pub left : (y.crews ≡ w.room) ⊎ (y.crews ≡ p.crews)
  pub bar : y.bar ≡ w.shut
  pub score : y.score ≡ 0
