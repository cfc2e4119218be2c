-- The bytes so far stand within the buffer, and each turn reads at least one.
use Rattle.std.proofs.Common.{length, ◌-◌, ◌≤◌}
use Rattle.plan.proofs.read_full.Given as goal

abbrev pub invariant-loop-done : goal.invariant-loop-done
invariant-loop-done l = l.done ≤ length l.bytes

abbrev pub decreases-loop-done : goal.decreases-loop-done
decreases-loop-done l = length l.initial.bytes - l.done
