-- The judge step by step: the grid's own refusals, the judgement on its cells, and what the whole call answers.
-- Assumes nothing.
use Prim.Native.Nat.{ℕ, ◌+◌, ◌*◌, ◌≤◌, ◌<◌}
use mathlib.Core.Path.{◌≡◌, refl, sym, ◌∙◌}
use mathlib.Core.List.{List}
use native.Mathlib.Omega.{arith}
use lib.ListN.{length, get_or}
use borrow.Author.Tests.{eq-eqb, ne_eqb, le-leb, lt-leb}
use Rattle.model.specs.Problem.{Problem}
use Rattle.model.specs.Grid.{States, cell}
use Rattle.model.specs.Rules.{broken, cost9}
use Rattle.model.specs.Verdict.{Verdict, accepted, refused, and_then, first_fault}
use Rattle.model.specs.Reading.{read_of}
use Rattle.model.specs.Refusal.{cell_fault, grid_verdict}
use Rattle.model.specs.Judgement.{Judgement, sound_at, breaks, refused_grid, judgement, judge_of}
use Rattle.model.proofs.VerdictLaws.{Onward, onward_fault, onward_next, accepted_cells}
use Rattle.instance.specs.declared.file.File.{File}
use Rattle.instance.specs.File.{problem}
use Rattle.instance.proofs.FiledLaws.{filed, cells_are}
use Rattle.rules.specs.declared.grid.Grid.{Grid}
use Rattle.checker.specs.Stated.{Stated}

-- ---- 12, at the first byte above 2

module _ (g : List ℕ) (q : ℕ) (on : Onward (cell_fault g) (length g) q) (h : q < length g) where
  -- a byte above 2
  pub cells_fault : 2 < get_or g q 0 → refused 12 q ≡ first_fault (cell_fault g) 0 (length g)
  unfolding cell_fault
  cells_fault e = onward_fault (cell_fault g) (length g) q on h 12 (simp (lt-leb (get_or g q 0) 2 e)) (λ z. absurd (omega arith))

  -- any other
  pub cells_next : get_or g q 0 ≤ 2 → Onward (cell_fault g) (length g) (q + 1)
  unfolding cell_fault
  cells_next e = onward_next (cell_fault g) (length g) q on h 0 (simp (le-leb (get_or g q 0) 2 e)) refl

-- ---- 11, then 12

module _ (file : File) (g : List ℕ) where
  -- a byte too few or too many
  pub length_fault : (length g ≡ file.layout.weeks * file.layout.units → ⊥) → refused 11 0 ≡ grid_verdict (problem file) g
  unfolding grid_verdict
  length_fault n =
      simp (cells_are file.words.now file.layout file.filed, ne_eqb (length g) (file.layout.weeks * file.layout.units) n)

  -- the bytes decide
  pub length_right : (v : Verdict) → length g ≡ file.layout.weeks * file.layout.units → v ≡ first_fault (cell_fault g) 0 (length g)
      → v ≡ grid_verdict (problem file) g
  unfolding grid_verdict
  length_right v e said =
      said ∙ simp (cells_are file.words.now file.layout file.filed, eq-eqb (length g) (file.layout.weeks * file.layout.units) e)

-- ---- the judgement on cells

module _ (p : Problem) (x : States) (rule : ℕ) (is : rule ≡ broken p x) where
  -- a formula is broken
  pub judged_breaks : (rule ≡ 0 → ⊥) → breaks rule ≡ judgement p x
  unfolding judgement
  judged_breaks n = simp (← is, ne_eqb rule 0 n)

  -- none is
  pub judged_sound : (cost : ℕ) → rule ≡ 0 → cost ≡ cost9 p x → sound_at cost ≡ judgement p x
  unfolding judgement
  judged_sound cost e c = simp (← is, eq-eqb rule 0 e, ← c)

-- ---- the whole call

-- the file is refused
pub file_refused : (ws g : List ℕ) (number place : ℕ) → refused number place ≡ read_of ws → refused_grid number place ≡ judge_of ws g
unfolding judge_of and_then
file_refused ws g number place q = rw (← q)

-- the grid of an accepted file is refused
pub grid_refused : (file : File) (g : List ℕ) (number place : ℕ) → refused number place ≡ grid_verdict (problem file) g
    → refused_grid number place ≡ judge_of file.words.now g
unfolding judge_of and_then
grid_refused file g number place q = rw (file.filed.passed, ← q)

module _ (file : File) (g : List ℕ) (passes : accepted ≡ grid_verdict (problem file) g) where
  -- it has a byte for each week and unit
  pub grid_full : length g ≡ file.layout.weeks * file.layout.units
  grid_full = (accepted_cells (problem file) g (sym passes)).0 ∙ cells_are file.words.now file.layout file.filed

  -- each byte is one of the three states
  pub stated : (grid : Grid) → grid.file ≡ file → grid.cells.now ≡ g → Stated grid
  stated grid e h = record { cells = rw (e, h, ← file.filed.units_are) (accepted_cells (problem file) g (sym passes)).1 }

  -- and the judgement on them is the answer
  pub grid_judged : (j : Judgement) → j ≡ judgement (problem file) (cell file.layout.units g) → j ≡ judge_of file.words.now g
  unfolding judge_of and_then
  grid_judged j is = is ∙ rw (file.filed.passed, ← passes, file.filed.units_are)
