-- `relaxation::start::room_left` meets its contract: the units so far that are out, and the room left, come to no less than all crews.
-- Assumes nothing.
use Rattle.std.proofs.Common.{◌+◌, ◌-◌, ◌≤◌}
use Rattle.sums.specs.Sum.{sum_to, counts_one}
use Rattle.sums.specs.NumSet.{only_in, has}
use Rattle.instance.specs.File.{problem}
use Rattle.relaxation.proofs.start.room_left.Given as goal

abbrev pub invariant-loop-i : goal.invariant-loop-i
invariant-loop-i l = (l.i ≤ l.units) × ((problem l.file).crews ≤ sum_to l.i (only_in (has l.out) counts_one) + l.room)

abbrev pub decreases-loop-i : goal.decreases-loop-i
decreases-loop-i l = l.units - l.i
