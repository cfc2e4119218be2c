-- `farkas::rounds::rounds_none` meets its contract: table and pushes stay in range, and a round that shows it is the last.
-- Assumes nothing.
use Rattle.std.proofs.Common.{◌-◌, ◌≤◌}
use Rattle.sums.specs.Table.{AtMost}
use Rattle.prices.specs.Ranges.{MOST_PUSH, PricedFile}
use Rattle.farkas.proofs.rounds.rounds_none.Given as goal

abbrev pub invariant-loop-n : goal.invariant-loop-n
invariant-loop-n l = (l.n ≤ l.most) × PricedFile l.file l.next × AtMost MOST_PUSH l.push

abbrev pub decreases-loop-n : goal.decreases-loop-n
decreases-loop-n l = l.most - l.n
