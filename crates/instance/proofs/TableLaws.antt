-- The tables of costs: the parts of the words that the code takes, their lengths, and the cost that an entry of a week's row is.
-- Assumes nothing.
use Prim.Native.Nat.{ℕ, ◌+◌, ◌*◌, ◌-◌, ◌≤◌, ◌<◌}
use mathlib.Core.Path.{◌≡◌, refl, ◌∙◌, ap}
use mathlib.Core.List.{List}
use native.Mathlib.Nat.{add-sub_cancel_left}
use native.Mathlib.Omega.{arith}
use lib.ListN.{length, get_or, take, drop, length-drop}
use lib.Seq.{get_or-take, get_or-drop, length-take-le}
use borrow.Author.Tests.{eq-eqb, ne_eqb}
use Rattle.model.specs.declared.Layout.{Layout}
use Rattle.model.specs.Words.{value_of, problem_of}
use Rattle.instance.specs.Filed.{Filed}
use Rattle.instance.specs.Tables.{maints_of, runnings_of, table_for, row_of}
use Rattle.instance.proofs.PlaceLaws.{cell_below}
use Rattle.instance.proofs.FigureLaws.{maint_at, running_at}

-- ---- the row that a state names

module _ (u t s : ℕ) (maints runnings : List ℕ) where
  -- MAINT names the maintenance costs
  pub row_maint : s ≡ 2 → take (t * u + u - t * u) (drop (t * u) maints) ≡ row_of u t (table_for s maints runnings)
  unfolding row_of table_for
  row_maint e = simp (eq-eqb s 2 e, add-sub_cancel_left)

  -- any other state the running costs
  pub row_running : (s ≡ 2 → ⊥) → take (t * u + u - t * u) (drop (t * u) runnings) ≡ row_of u t (table_for s maints runnings)
  unfolding row_of table_for
  row_running n = simp (ne_eqb s 2 n, add-sub_cancel_left)

-- a row of a table that goes so far has a word for each unit
pub row_length : (u t : ℕ) (xs : List ℕ) → t * u + u ≤ length xs → length (row_of u t xs) ≡ u
unfolding row_of
row_length u t xs h = length-take-le _ _ (simp length-drop (omega arith))

module _ (ws : List ℕ) (l : Layout) (f : Filed ws l) where
  -- ---- the tables as parts of the words

  -- a table from any place on: as far as the next section, with a word for each week and unit, and whole rows
  table_part : (from to : ℕ) → to ≡ from + l.weeks * l.units → take (to - from) (drop from ws) ≡ take (l.weeks * l.units) (drop from ws)
  table_part from to e = let d : to - from ≡ l.weeks * l.units = omega arith in rw d

  table_length : (from : ℕ) → from + l.weeks * l.units ≤ length ws → length (take (l.weeks * l.units) (drop from ws)) ≡ l.weeks * l.units
  table_length from h = length-take-le _ _ (simp length-drop (omega arith))

  table_rows : (xs : List ℕ) (t : ℕ) → length xs ≡ l.weeks * l.units → t < l.weeks → t * l.units + l.units ≤ length xs
  table_rows xs t e ht = rw e (omega (arith, cell_below l.weeks l.units t (l.units - 1) ht (omega arith)))

  -- the maintenance costs go as far as the running costs
  pub maints_part : take (l.runnings - l.maints) (drop l.maints ws) ≡ maints_of l ws
  unfolding maints_of
  maints_part = table_part l.maints l.runnings (omega arith)

  -- the running costs as far as the OFF costs
  pub runnings_part : take (l.offs - l.runnings) (drop l.runnings ws) ≡ runnings_of l ws
  unfolding runnings_of
  runnings_part = table_part l.runnings l.offs (omega arith)

  -- a maintenance cost for each week and unit
  pub maints_length : length (maints_of l ws) ≡ l.weeks * l.units
  unfolding maints_of
  maints_length = table_length l.maints (omega arith)

  -- and a running cost
  pub runnings_length : length (runnings_of l ws) ≡ l.weeks * l.units
  unfolding runnings_of
  runnings_length = table_length l.runnings (omega arith)

  -- so far goes the table of maintenance costs, in every week
  pub maints_rows : (xs : List ℕ) (t : ℕ) → xs ≡ maints_of l ws → t < l.weeks → t * l.units + l.units ≤ length xs
  maints_rows xs t e ht = table_rows xs t (ap length e ∙ maints_length) ht

  -- and the table of running costs
  pub runnings_rows : (xs : List ℕ) (t : ℕ) → xs ≡ runnings_of l ws → t < l.weeks → t * l.units + l.units ≤ length xs
  runnings_rows xs t e ht = table_rows xs t (ap length e ∙ runnings_length) ht

  -- ---- an entry of a week's row is the problem's cost

  module _ (t i : ℕ) (ht : t < l.weeks) (hi : i < l.units) where
    -- in a table from any place on
    row_entry : (from : ℕ) → get_or (row_of l.units t (take (l.weeks * l.units) (drop from ws))) i 0 ≡ get_or ws (from + (t * l.units + i)) 0
    unfolding row_of
    row_entry from = let h = cell_below l.weeks l.units t i ht hi in rw (get_or-take, get_or-drop, get_or-take, get_or-drop)

    -- in the table of maintenance costs
    pub maint_entry : value_of (get_or (row_of l.units t (maints_of l ws)) i 0) ≡ (problem_of ws).maint t i
    unfolding maints_of
    maint_entry = maint_at ws l f _ (t * l.units + i) t i refl (ap value_of (row_entry l.maints))

    -- in the table of running costs
    pub running_entry : value_of (get_or (row_of l.units t (runnings_of l ws)) i 0) ≡ (problem_of ws).running t i
    unfolding runnings_of
    running_entry = running_at ws l f _ (t * l.units + i) t i refl (ap value_of (row_entry l.runnings))
