-- `farkas::rounds::run_round` meets its contract: table and pushes stay in range from one call to the next.
-- Assumes nothing.
use Rattle.std.proofs.Common.{rules}
use Rattle.prices.proofs.RangeLaws.{moved_priced}
use Rattle.farkas.proofs.rounds.run_round.Goals as goal

pub shows_none-requires : goal.shows_none-requires
shows_none-requires c = search moved_priced

pub returns : goal.returns
returns c = record { ranges = (search moved_priced, search rules); none = search rules }
