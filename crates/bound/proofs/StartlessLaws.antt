-- A unit without a permitted start, a unit at a time.
-- Assumes nothing.
use Prim.Native.Nat.{ℕ, ◌+◌, ◌-◌, ◌≤◌, ◌<◌}
use mathlib.Core.Path.{◌≡◌, sym}
use mathlib.Core.Bool.{true, false}
use native.Mathlib.Omega.{arith}
use lib.Dec.{eqb}
use borrow.Author.Tests.{eq-eqb, ne_eqb}
use Rattle.sums.specs.Range.{some_to}
use Rattle.sums.proofs.RangeLaws.{some_of}
use Rattle.sums.proofs.LoopLaws.{some_next, some_ended}
use Rattle.model.specs.Domain.{start_count}
use Rattle.instance.specs.declared.file.File.{File}
use Rattle.instance.specs.File.{problem}
use Rattle.overhaul.specs.Range.{StartRange}
use Rattle.overhaul.proofs.StartLaws.{start_count_lem}
use Rattle.bound.specs.Tests.{no_start, some_startless}

-- a unit whose last start lies before its first has none, and the others have one
module _ (file : File) (i a b : ℕ) (range : StartRange (problem file) i a b) (ends : b ≤ file.layout.weeks) where
  counted : start_count (problem file) i ≡ b + 1 - a
  counted = start_count_lem (problem file) i a b range (rw file.filed.weeks_are ends)

  -- one is found
  pub startless_found : i < file.layout.units → b < a → true ≡ some_startless (problem file)
  unfolding some_startless no_start
  startless_found h e =
      sym (some_of (problem file).units (no_start (problem file)) i (rw file.filed.units_are h) (eq-eqb (start_count (problem file) i) 0 (omega
      (arith, counted))))

  -- this one has a start
  pub startless_next : some_to i (no_start (problem file)) ≡ false → 1 ≤ a → a ≤ b → some_to (i + 1) (no_start (problem file)) ≡ false
  unfolding no_start
  startless_next h one e =
      let n : eqb (start_count (problem file) i) 0 ≡ false = ne_eqb (start_count (problem file) i) 0 (λ z. omega (arith, counted)) in
      sym (some_next (no_start (problem file)) i false false (sym h) (sym n))

-- all have
pub startless_ended : (file : File) (i : ℕ) → some_to i (no_start (problem file)) ≡ false → i ≤ file.layout.units → file.layout.units ≤ i
    → false ≡ some_startless (problem file)
unfolding some_startless
startless_ended file i h m n =
    some_ended (no_start (problem file)) i (problem file).units false (omega (arith, file.filed.units_are)) (omega (arith, file.filed.units_are)) (sym h)
