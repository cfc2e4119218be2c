-- `search::gaps::probe_gaps` meets its contract: the probes so far have left what is true in the table.
-- Assumes nothing.
use Rattle.std.proofs.Common.{◌-◌, ◌≡◌, length}
use Rattle.instance.specs.File.{problem}
use Rattle.walk.specs.Walk.{Carried}
use Rattle.search.specs.Walks.{GapAt}
use Rattle.search.proofs.gaps.probe_gaps.Given as goal

abbrev pub invariant-loop-at : goal.invariant-loop-at
invariant-loop-at l = GapAt l.file l.tables l.st l.at l.free.shown l.table l.memo × Carried (problem l.file) l.initial.table l.st.used l.table l.at.state.used × (length l.table ≡ length l.initial.table) × (length l.memo ≡ length l.initial.memo)

abbrev pub decreases-loop-at : goal.decreases-loop-at
decreases-loop-at l = l.at.room.0 - l.at.gap.0
