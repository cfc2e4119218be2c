-- Formula (9): a cell's cost, OFF from its own figure, else from the row that its state names, and the sums over units and weeks.
-- Assumes nothing.
use Prim.Native.Nat.{ℕ, zero, suc, ◌≤◌, ◌<◌}
use mathlib.Core.Path.{◌≡◌, refl, ◌∙◌, ap}
use mathlib.Core.Bool.{Bool, true, false}
use mathlib.Core.List.{List}
use native.Mathlib.Omega.{arith}
use lib.Dec.{eqb}
use lib.ListN.{length, get_or}
use Rattle.sums.specs.Logic.{if}
use Rattle.sums.specs.Sum.{sum_to}
use Rattle.sums.proofs.LoopLaws.{sum_ended}
use Rattle.model.specs.Problem.{Problem}
use Rattle.model.specs.Grid.{States, is_on, is_maint}
use Rattle.model.specs.Rules.{charge, week_cost, cost9}
use Rattle.model.specs.Words.{value_of}
use Rattle.instance.specs.declared.file.File.{File}
use Rattle.instance.specs.File.{problem}
use Rattle.instance.specs.Tables.{maints_of, runnings_of, table_for, row_of}
use Rattle.instance.proofs.TableLaws.{row_length, maints_rows, runnings_rows, maint_entry, running_entry}
use Rattle.rules.specs.declared.grid.Grid.{Grid}
use Rattle.rules.specs.Gridded.{states}
use Rattle.checker.specs.Stated.{Stated}

-- ---- a cell

-- a row of the two tables as the code has them
pub row_named : (file : File) (maints runnings row : List ℕ) (t s : ℕ) → maints ≡ maints_of file.layout file.words.now → runnings ≡ runnings_of file.layout file.words.now
    → row ≡ row_of file.layout.units t (table_for s maints runnings) → row ≡ row_of file.layout.units t (table_for s (maints_of file.layout file.words.now) (runnings_of file.layout file.words.now))
row_named file maints runnings row t s m r e = rw (m, r) at e

module _ (file : File) (t i : ℕ) (ht : t < file.layout.weeks) (hi : i < file.layout.units) where
  abbrev named : ℕ → List ℕ
  named s = row_of file.layout.units t (table_for s (maints_of file.layout file.words.now) (runnings_of file.layout file.words.now))

  -- the row that a state names has an entry for each unit
  pub row_reaches : (row : List ℕ) (s : ℕ) → row ≡ row_of file.layout.units t (table_for s (maints_of file.layout file.words.now) (runnings_of file.layout file.words.now)) → i < length row
  unfolding table_for
  row_reaches row s e = rw e (go (eqb s 2))
    where
      go : (b : Bool) → i < length (row_of file.layout.units t (if b (maints_of file.layout file.words.now) (runnings_of file.layout file.words.now)))
      go true = rw (row_length file.layout.units t (maints_of file.layout file.words.now) (maints_rows file.words.now file.layout file.filed (maints_of file.layout file.words.now) t refl ht)) hi
      go false = rw (row_length file.layout.units t (runnings_of file.layout file.words.now) (runnings_rows file.words.now file.layout file.filed (runnings_of file.layout file.words.now) t refl ht)) hi

  -- the entry is the cost of a unit in that state
  entry_costs : (s : ℕ) → (s ≡ 0 → ⊥) → s ≤ 2
      → value_of (get_or (named s) i 0) ≡ if (eqb s 2) ((problem file).maint t i) (if (eqb s 1) ((problem file).running t i) ((problem file).off t i))
  unfolding table_for
  entry_costs zero n h = absurd (n refl)
  entry_costs (suc zero) n h = running_entry file.words.now file.layout file.filed t i ht hi
  entry_costs (suc (suc zero)) n h = maint_entry file.words.now file.layout file.filed t i ht hi
  entry_costs (suc (suc (suc s))) n h = absurd (omega arith)

module _ (g : Grid) (t i s : ℕ) (same : s ≡ states g t i) where
  -- OFF costs what the file says of it
  pub off_costs : (r : ℕ) → s ≡ 0 → r ≡ (problem g.file).off t i → r ≡ charge (problem g.file) (states g) t i
  unfolding charge is_maint is_on
  off_costs r e is = rw (← same, e) is

  -- any other state what its row says
  pub state_costs : (row : List ℕ) (r : ℕ) → Stated g → t < g.file.layout.weeks → i < g.file.layout.units → (s ≡ 0 → ⊥)
      → row ≡ row_of g.file.layout.units t (table_for s (maints_of g.file.layout g.file.words.now) (runnings_of g.file.layout g.file.words.now))
      → r ≡ value_of (get_or row i 0) → r ≡ charge (problem g.file) (states g) t i
  unfolding charge is_maint is_on
  state_costs row r k ht hi n e is =
      let few : s ≤ 2 = rw same (k.cells t i (rw g.file.filed.weeks_are ht) (rw g.file.filed.units_are hi)) in
      is ∙ ap (λ (xs : List ℕ). value_of (get_or xs i 0)) e ∙ rw (← same) (entry_costs g.file t i ht hi s n few)

-- ---- the sums

module _ (p : Problem) (x : States) (n k a : ℕ) (h : k ≤ n) (g : n ≤ k) where
  -- over all units of a week
  pub week_ended : (t : ℕ) → p.units ≡ n → a ≡ sum_to k (charge p x t) → a ≡ week_cost p x t
  unfolding week_cost
  week_ended t units e = rw units (sum_ended _ k n a e h g)

  -- over all weeks
  pub weeks_ended : p.weeks ≡ n → a ≡ sum_to k (week_cost p x) → a ≡ cost9 p x
  unfolding cost9
  weeks_ended weeks e = rw weeks (sum_ended _ k n a e h g)
