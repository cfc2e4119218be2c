-- Sums over the units of a set or a run, as the loops end.
-- Assumes nothing.
use Prim.Native.Nat.{ℕ, ◌≤◌}
use mathlib.Core.Path.{◌≡◌}
use mathlib.Core.List.{List}
use Rattle.sums.specs.Sum.{sum_to}
use Rattle.sums.specs.NumSet.{NumSet, only_in}
use Rattle.sums.proofs.LoopLaws.{sum_ended}
use Rattle.model.specs.declared.Layout.{Layout}
use Rattle.model.specs.Words.{problem_of}
use Rattle.model.specs.Rules.{output}
use Rattle.model.specs.Commitment.{off_cost}
use Rattle.instance.specs.Filed.{Filed}

module _ (ws : List ℕ) (l : Layout) (t k a : ℕ) (f : Filed ws l) (h : k ≤ l.units) (g : l.units ≤ k) where
  -- what any set of units gives
  pub output_ended : (set : NumSet) → a ≡ sum_to k (only_in set ((problem_of ws).capacity t)) → a ≡ output (problem_of ws) t set
  unfolding output
  output_ended set e = rw f.units_are (sum_ended (only_in set ((problem_of ws).capacity t)) k l.units a e h g)

  -- what any set of units would cost OFF
  pub off_ended : (set : NumSet) → a ≡ sum_to k (only_in set ((problem_of ws).off t)) → a ≡ off_cost (problem_of ws) t set
  unfolding off_cost
  off_ended set e = rw f.units_are (sum_ended (only_in set ((problem_of ws).off t)) k l.units a e h g)
