-- A week's least cost from the one that charges OFF to the units out too.
-- Assumes nothing.
use Prim.Native.Nat.{ℕ, ◌-◌, ◌≤◌, ◌<◌}
use mathlib.Core.Path.{◌≡◌}
use native.Mathlib.Omega.{arith}
use Rattle.sums.specs.NumSet.{has}
use Rattle.model.specs.Commitment.{off_cost, NoRun, least_cost, full_least, NO_RUN}
use Rattle.model.proofs.CommitmentLaws.{least_none, full_least_lem, full_lacks}
use Rattle.instance.specs.declared.file.File.{File}
use Rattle.instance.specs.File.{problem}
use Rattle.commitment.proofs.ScoreLaws.{run_small}

module _ (file : File) (t out full : ℕ) (h : t < file.layout.weeks) (is : full ≡ full_least (problem file) t (has out)) where
  -- where there is no run, both stand for none
  pub net_none : NO_RUN ≤ full → full ≤ NO_RUN → full ≡ least_cost (problem file) t (has out)
  net_none a b = omega (arith, least_none (problem file) t (has out) none)
    where
      none : NoRun (problem file) t (has out)
      none = full_lacks (problem file) t (has out) (λ q s. omega (arith, run_small file t h q)) (omega arith)

  -- else they differ by what the units out would cost OFF
  pub net_cost : (off r : ℕ) → full < NO_RUN → off ≡ off_cost (problem file) t (has out) → r ≡ full - off
      → r ≡ least_cost (problem file) t (has out)
  net_cost off r b eo e = omega (arith, full_least_lem (problem file) t (has out) (omega arith))

-- and it is below it
pub net_small : (full off r : ℕ) → full < NO_RUN → r ≡ full - off → r ≤ NO_RUN
net_small full off r b e = omega arith
