-- `rules::spans::overhauled` meets its contract: the end of maintenance is 0 exactly where there is none.
-- Assumes nothing.
use Rattle.rules.proofs.SpanLaws.{some_out}
use Rattle.rules.proofs.spans.overhauled.Goals as goal

pub returns : goal.returns
returns c = search some_out
