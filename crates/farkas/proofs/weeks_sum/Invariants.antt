-- `farkas::weeks_sum` meets its contract: week by week.
-- Assumes nothing.
use Rattle.std.proofs.Common.{◌-◌, ◌*◌, ◌≤◌}
use Rattle.instance.specs.File.{problem}
use Rattle.tables.specs.Tables.{price_in}
use Rattle.blame.specs.Free.{WeekFree}
use Rattle.farkas.specs.Choices.{NO_WEEK}
use Rattle.farkas.specs.Sums.{Summed}
use Rattle.farkas.proofs.weeks_sum.Given as goal

abbrev pub invariant-loop-t : goal.invariant-loop-t
invariant-loop-t l = (l.t ≤ l.weeks) × (l.sum.0 ≤ NO_WEEK * l.t) × Summed (WeekFree (problem l.file) (price_in l.tables)) l.t l.sum.0

abbrev pub decreases-loop-t : goal.decreases-loop-t
decreases-loop-t l = l.weeks - l.t
