-- Places in a file's words: cells of a table of costs, pairs.
-- Assumes nothing.
use Prim.Native.Nat.{ℕ, ◌+◌, ◌*◌, ◌-◌, ◌/◌, ◌%◌, ◌^◌, ◌≤◌, ◌<◌}
use mathlib.Core.Path.{◌≡◌}
use mathlib.Core.List.{List}
use native.Mathlib.Nat.{le_of_lt, mul-le-mul}
use native.Mathlib.Omega.{arith}
use lib.Arith.{digits_lt}
use lib.ListN.{length}
use mir.Syntax.{w64}
use mir.Val.{Fits}
use Rattle.model.specs.declared.Layout.{Layout}
use Rattle.model.specs.Words.{VALUES, value_at, layout_of, problem_of}
use Rattle.model.proofs.FileLaws.{pair_word}
use Rattle.instance.specs.Filed.{Filed}

-- week t and unit i have a cell of their own among w weeks of u units
pub cell_below : (w u t i : ℕ) → t < w → i < u → t * u + i < w * u
cell_below w u t i ht hi = digits_lt ht hi

-- in a table of a file no product or sum on the way to it wraps
pub cell_fits : (w u t i : ℕ) → w * u ≤ 832 → t < w → i < u → t * u + i < 18446744073709551616
cell_fits w u t i few ht hi = omega (arith, cell_below w u t i ht hi)

pub row_fits : (w u t i : ℕ) → w * u ≤ 832 → t < w → i < u → t * u < 18446744073709551616
row_fits w u t i few ht hi = omega (arith, cell_below w u t i ht hi)

-- a table of as many weeks and units as words can say has fewer than 2 ^ 57 cells
pub table_below : (w u : ℕ) → w < VALUES → u < VALUES → w * u < 2 ^ 57
table_below w u hw hu = omega (arith, mul-le-mul (le_of_lt hw) (le_of_lt hu))

-- pair n stands before the end word
pub pair_below : (ws : List ℕ) (l : Layout) (n : ℕ) → Filed ws l → n < (problem_of ws).pairs → l.pairs + n < length ws
unfolding problem_of
pair_below ws l n f h = let k : n < length ws - (l.pairs + 1) = rw f.laid h in omega arith

-- so its place is no large number
pub pair_place_fits : (ws : List ℕ) (l : Layout) (n : ℕ) → Filed ws l → n < (problem_of ws).pairs → Fits w64 (l.pairs + n)
pair_place_fits ws l n f h = omega (arith, pair_below ws l n f h)

-- the units in pair n's word count from 1, so the code may take 1 off
module _ (ws : List ℕ) (l : Layout) (n r : ℕ) (f : Filed ws l) (h : n < (problem_of ws).pairs) (e : r ≡ value_at ws (l.pairs + n)) where
  here : r ≡ value_at ws ((layout_of ws).pairs + n)
  here = rw (← f.laid) e

  pub pair_a_above : 1 ≤ r / 32
  pair_a_above = rw here (pair_word ws f.passed n h).from_one

  pub pair_b_above : 1 ≤ r % 32
  pair_b_above = let p = pair_word ws f.passed n h in rw here (omega (arith, p.from_one, p.order))
