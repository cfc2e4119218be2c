-- `rules::spans::long_enough` meets its contract: the first week of maintenance and its end are those of (5).
-- Assumes nothing.
use Rattle.rules.proofs.SpanLaws.{long_none, long_some}
use Rattle.rules.proofs.spans.long_enough.Goals as goal

pub returns-then-end-eq0 : goal.returns-then-end-eq0
returns-then-end-eq0 c = search long_none

pub returns : goal.returns
returns c = search long_some
