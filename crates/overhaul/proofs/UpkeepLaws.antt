-- What an overhaul costs in maintenance, a week at a time: what a permitted start gives the loop, a turn, and the whole duration.
-- Assumes nothing.
use Prim.Native.Nat.{ℕ, suc, ◌+◌, ◌-◌, ◌≤◌, ◌<◌}
use mathlib.Core.Path.{◌≡◌, sym, ◌∙◌, ap}
use mathlib.Core.Bool.{true}
use mathlib.Core.List.{List}
use native.Mathlib.Omega.{arith}
use Rattle.sums.specs.Sum.{sum_to, shifted, transposed}
use Rattle.sums.proofs.LoopLaws.{sum_next, sum_ended}
use Rattle.model.specs.Words.{problem_of}
use Rattle.model.specs.Domain.{permitted}
use Rattle.model.specs.Plan.{upkeep}
use Rattle.model.proofs.DomainLaws.{permits_from, permits_ends}
use Rattle.model.proofs.FileLaws.{fair}
use Rattle.instance.specs.declared.file.File.{File}
use Rattle.instance.specs.File.{problem}
use Rattle.overhaul.proofs.SpanLaws.{span_sum_lem}

-- one more week
pub upkeep_next : (ws : List ℕ) (i a k s v r : ℕ) → s ≡ sum_to k (shifted a (transposed (problem_of ws).maint i)) → v ≡ (problem_of ws).maint (a + k) i
    → r ≡ s + v → r ≡ sum_to (k + 1) (shifted a (transposed (problem_of ws).maint i))
unfolding shifted transposed
upkeep_next ws i a k s v r = sum_next (shifted a (transposed (problem_of ws).maint i)) k s v r

module _ (file : File) (i start : ℕ) (h : i < file.layout.units) (e : permitted (problem file) i start ≡ true) where
  -- starts count from 1
  pub start_some : 1 ≤ start
  start_some =
      let u : i < (problem file).units = rw file.filed.units_are h in
      omega (arith, permits_from (problem file) i start e, (fair file.words.now file.filed.passed).from_one i u)

  -- the overhaul ends in the season
  pub ends_within : (d : ℕ) → d ≡ (problem file).duration i → start - 1 + d ≤ file.layout.weeks
  ends_within d is = omega (arith, start_some, permits_ends (problem file) i start e)

  -- all its weeks
  pub upkeep_ended : (k d r : ℕ) → d ≡ (problem file).duration i → k ≤ d → d ≤ k
      → r ≡ sum_to k (shifted (start - 1) (transposed (problem file).maint i)) → r ≡ upkeep (problem file) i start
  unfolding upkeep
  upkeep_ended k d r is m n t =
      let p = problem file in
      let s : start ≡ suc (start - 1) = omega (arith, start_some) in
      let b : start - 1 + p.duration i ≤ p.weeks = omega (arith, ends_within d is) in
      sum_ended (shifted (start - 1) (transposed p.maint i)) k d r t m n
      ∙ ap (λ (z : ℕ). sum_to z (shifted (start - 1) (transposed p.maint i))) is
      ∙ sym (span_sum_lem (start - 1) (p.duration i) (transposed p.maint i) p.weeks b)
      ∙ ap (λ (z : ℕ). upkeep p i z) (sym s)
