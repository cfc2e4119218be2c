-- `rules::spans::first_out` meets its contract: no week before the loop's is one of maintenance.
-- Assumes nothing.
use Rattle.std.proofs.Common.{◌-◌, ◌≤◌}
use Rattle.rules.specs.Gridded.{states}
use Rattle.rules.proofs.SpanLaws.{NoneBefore}
use Rattle.rules.proofs.spans.first_out.Given as goal

abbrev pub invariant-loop-t : goal.invariant-loop-t
invariant-loop-t l = (l.t ≤ l.weeks) × NoneBefore (states l.grid) l.i l.t

abbrev pub decreases-loop-t : goal.decreases-loop-t
decreases-loop-t l = l.weeks - l.t
