-- `dual::shrink_blame` meets its contract: the units kept so far keep the bound up.
-- Assumes nothing.
use Rattle.std.proofs.Common.{◌≡◌, length}
use Rattle.sums.specs.NumSet.{has}
use Rattle.dual.proofs.BlameLaws.{Thinning}
use Rattle.dual.proofs.shrink_blame.Given as goal

abbrev pub invariant-loop-i : goal.invariant-loop-i
invariant-loop-i l = (length l.values ≡ length l.initial.values) × Thinning l.file l.tables (has l.initial.kept.units) l.starts l.wanted.0 l.i l.kept l.values
