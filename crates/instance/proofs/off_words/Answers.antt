-- `instance::off_words` meets its contract: as many as cells, or none.
-- Assumes nothing.
use Rattle.std.proofs.Common.{rules}
use Rattle.instance.proofs.OffLaws.{off_some, off_lacks}
use Rattle.instance.proofs.off_words.Goals as goal

pub returns-then-kind_at-eq0 : goal.returns-then-kind_at-eq0
returns-then-kind_at-eq0 c = (search off_some, search rules)

pub returns : goal.returns
returns c = (search off_lacks, search rules)
