-- `prices::keep_or_restart` meets its contract: the tables change places, and a push of none is in range.
-- Assumes nothing.
use Rattle.std.proofs.Common.{rules}
use Rattle.prices.proofs.RangeLaws.{one_of_first, one_of_second}
use Rattle.prices.specs.Ranges.{PLACES, LEVEL, MOST_PUSH}
use Rattle.sums.proofs.TableLaws.{at_most_start}
use Rattle.prices.proofs.keep_or_restart.Goals as goal

pub returns-then-s-root : goal.returns-then-s-root
returns-then-s-root c = record { ranges = (search rules, search rules); chosen = (search one_of_first, search one_of_first) }

pub returns-then-idle-lt-PATIENCE : goal.returns-then-idle-lt-PATIENCE
returns-then-idle-lt-PATIENCE c = record { ranges = (search rules, search rules); chosen = (search one_of_first, search one_of_second) }

pub returns : goal.returns
returns c = record {
  ranges = (search rules, at_most_start PLACES LEVEL MOST_PUSH (search rules));
  chosen = (search one_of_second, search one_of_second);
}
