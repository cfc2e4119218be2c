-- What a unit costs OFF, a week at a time.
-- Assumes nothing.
use Prim.Native.Nat.{ℕ, ◌+◌, ◌≤◌}
use mathlib.Core.Path.{◌≡◌}
use mathlib.Core.List.{List}
use native.Mathlib.Omega.{arith}
use Rattle.sums.specs.Sum.{sum_to, transposed}
use Rattle.sums.proofs.LoopLaws.{sum_next, sum_ended}
use Rattle.model.specs.Words.{problem_of}
use Rattle.instance.specs.declared.file.File.{File}
use Rattle.instance.specs.File.{problem}
use Rattle.overhaul.specs.Off.{off_weeks}

-- one more week
pub off_next : (ws : List ℕ) (i t s v r : ℕ) → s ≡ sum_to t (transposed (problem_of ws).off i) → v ≡ (problem_of ws).off t i → r ≡ s + v
    → r ≡ sum_to (t + 1) (transposed (problem_of ws).off i)
unfolding transposed
off_next ws i t s v r = sum_next (transposed (problem_of ws).off i) t s v r

-- all of them
pub off_ended : (file : File) (i t weeks r : ℕ) → weeks ≡ file.layout.weeks → t ≤ weeks → weeks ≤ t
    → r ≡ sum_to t (transposed (problem file).off i) → r ≡ off_weeks (problem file) i
unfolding off_weeks
off_ended file i t weeks r e a b h =
    sum_ended (transposed (problem file).off i) t (problem file).weeks r h (omega arith) (omega arith)
