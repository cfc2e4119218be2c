-- A schedule laid out byte by byte: a week's place in an overhaul, the state of a cell, the bytes written so far, and the answer.
-- Assumes nothing.
use Prim.Native.Nat.{ℕ, ◌*◌, ◌/◌, ◌%◌, ◌≤◌, ◌<◌}
use mathlib.Core.Path.{◌≡◌, refl}
use mathlib.Core.Bool.{Bool, true, false}
use mathlib.Core.List.{List, ◌++◌}
use native.Mathlib.Omega.{arith}
use lib.ListN.{get_or, drop}
use mir.Syntax.{w64}
use mir.Val.{Fits}
use borrow.Author.Tests.{le-leb, lt-leb}
use Rattle.sums.specs.NumSet.{has}
use Rattle.sums.specs.Range.{list_to}
use Rattle.sums.proofs.LoopLaws.{list_ended}
use Rattle.model.specs.Problem.{Problem}
use Rattle.model.specs.Grid.{States, state_at}
use Rattle.model.specs.Schedule.{Schedule, schedule_of, in_span, out_in, lay_out}
use Rattle.model.specs.Verdict.{accepted, refused}
use Rattle.model.specs.Reading.{read_of}
use Rattle.model.specs.Drawing.{draw_verdict, drawn_into}
use Rattle.instance.specs.declared.file.File.{File}
use Rattle.instance.specs.File.{problem}
use Rattle.instance.proofs.FiledLaws.{filed, cells_are}

-- ---- the state of a cell

module _ (p : Problem) (ss rs : List ℕ) (t i : ℕ) (out : Bool) (is : out ≡ in_span (get_or ss i 0) (p.duration i) t) where
  -- MAINT in the overhaul
  pub state_maint : out ≡ true → 2 ≡ lay_out p (schedule_of ss rs) t i
  unfolding lay_out out_in
  state_maint e = rw (← is, e)

  -- ON outside it in the week's run
  pub state_on : (run : ℕ) (on : Bool) → out ≡ false → run ≡ get_or rs t 0 → on ≡ has run i → on ≡ true → 1 ≡ lay_out p (schedule_of ss rs) t i
  unfolding lay_out out_in
  state_on run on e r h o = rw (← is, e, ← r, ← h, o)

  -- OFF elsewhere
  pub state_off : (run : ℕ) (on : Bool) → out ≡ false → run ≡ get_or rs t 0 → on ≡ has run i → on ≡ false → 0 ≡ lay_out p (schedule_of ss rs) t i
  unfolding lay_out out_in
  state_off run on e r h o = rw (← is, e, ← r, ← h, o)

-- ---- the bytes

module _ (file : File) where
  -- byte q tells the state of its week and unit
  pub byte_state : (x : States) (q r : ℕ) → r ≡ x (q / file.layout.units) (q % file.layout.units) → r ≡ state_at (problem file) x q
  unfolding state_at
  byte_state x q r e = rw file.filed.units_are e

  -- all bytes of the grid
  pub bytes_ended : (s : Schedule) (d g : List ℕ) (k : ℕ) → g ≡ list_to k (state_at (problem file) (lay_out (problem file) s)) ++ drop k d
      → k ≤ file.layout.weeks * file.layout.units → file.layout.weeks * file.layout.units ≤ k → g ≡ drawn_into accepted (problem file) s d
  unfolding drawn_into
  bytes_ended s d g k e h m =
      let n = cells_are file.words.now file.layout file.filed in
      list_ended (state_at (problem file) (lay_out (problem file) s)) d g k ((problem file).weeks * (problem file).units) e (omega arith) (omega arith)

-- ---- the answer

-- the file's refusal
pub drawn_refused : (ws : List ℕ) (number place lent : ℕ) → refused number place ≡ read_of ws → refused number place ≡ draw_verdict ws lent
unfolding draw_verdict
drawn_refused ws number place lent said = rw (← said)

module _ (file : File) where
  -- the number of an accepted file's bytes is no large one
  pub bytes_fit : Fits w64 (file.layout.weeks * file.layout.units)
  bytes_fit = omega (arith, file.filed.cells_most)

  -- too few bytes are lent
  pub drawn_short : (lent : ℕ) → lent < file.layout.weeks * file.layout.units → refused 17 0 ≡ draw_verdict file.words.now lent
  unfolding draw_verdict
  drawn_short lent h =
      rw (file.filed.passed, cells_are file.words.now file.layout file.filed, lt-leb (file.layout.weeks * file.layout.units) lent h)

  -- enough bytes are lent
  pub drawn_all : (lent : ℕ) → file.layout.weeks * file.layout.units ≤ lent → accepted ≡ draw_verdict file.words.now lent
  unfolding draw_verdict
  drawn_all lent h =
      rw (file.filed.passed, cells_are file.words.now file.layout file.filed, le-leb (file.layout.weeks * file.layout.units) lent h)

-- a refused call changes nothing
pub bytes_kept : (number place : ℕ) (p : Problem) (s : Schedule) (d : List ℕ) → d ≡ drawn_into (refused number place) p s d
unfolding drawn_into
bytes_kept number place p s d = refl
