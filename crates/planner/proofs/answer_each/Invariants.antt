-- `planner::answer_each` meets its contract: after each ask the run is one further, and after the last it is demand 3.
-- Assumes nothing.
use Rattle.std.proofs.Common.{◌-◌, ◌/◌, ◌≤◌, ◌≡◌, length}
use Rattle.planner.specs.Due.{RunDue}
use Rattle.planner.proofs.answer_each.Given as goal

abbrev pub invariant-loop-k : goal.invariant-loop-k
invariant-loop-k l = (l.k ≤ l.n) × (l.n ≡ length l.asks / 2) × RunDue l.file l.tables l.asks l.initial.answers l.initial.table l.answers l.table l.carry l.free.shown l.k l.scratch
    × (length l.table ≡ length l.initial.table) × (length l.answers ≡ length l.initial.answers) × (length l.scratch ≡ length l.initial.scratch)

abbrev pub decreases-loop-k : goal.decreases-loop-k
decreases-loop-k l = l.n - l.k
