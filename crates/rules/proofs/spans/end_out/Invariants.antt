-- `rules::spans::end_out` meets its contract: no week from the loop's on is one of maintenance.
-- Assumes nothing.
use Rattle.std.proofs.Common.{◌≤◌}
use Rattle.rules.specs.Gridded.{states}
use Rattle.rules.proofs.SpanLaws.{NoneFrom}
use Rattle.rules.proofs.spans.end_out.Given as goal

abbrev pub invariant-loop-t : goal.invariant-loop-t
invariant-loop-t l = (l.t ≤ l.grid.file.layout.weeks) × NoneFrom l.grid.file.layout.weeks (states l.grid) l.i l.t
