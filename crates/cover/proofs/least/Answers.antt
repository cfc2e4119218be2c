-- `cover::least` meets its contract: the walk goes on from the guess.
-- Assumes nothing.
use Rattle.std.proofs.Common.{rules}
use Rattle.cover.proofs.CoverLaws.{least_found}
use Rattle.cover.proofs.TableLaws.{ready}
use Rattle.cover.proofs.least.Goals as goal

pub walk-requires : goal.walk-requires
walk-requires c = (search ready, search rules, search rules)

pub returns : goal.returns
returns c = search least_found
