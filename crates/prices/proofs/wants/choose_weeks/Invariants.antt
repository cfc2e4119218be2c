-- `prices::wants::choose_weeks` meets its contract: the sum so far has less than 2^28 for each week, and the memo is right.
-- Assumes nothing.
use Rattle.std.proofs.Common.{length, ◌≡◌, ◌*◌, ◌≤◌}
use Rattle.instance.specs.File.{problem}
use Rattle.memo.specs.Memo.{Right, Others}
use Rattle.model.specs.Commitment.{NO_RUN}
use Rattle.prices.proofs.wants.choose_weeks.Given as goal

abbrev pub invariant-loop-t : goal.invariant-loop-t
invariant-loop-t l =
    (l.file.layout.weeks ≤ 52) × (l.sum.0 ≤ NO_RUN * l.t) × Right (problem l.file) l.memo × Others l.initial.memo l.memo
    × (length l.memo ≡ length l.initial.memo)
