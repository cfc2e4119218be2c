-- `instance::off_cost` meets its contract: the cell's word, or 0 where the file has no OFF costs.
-- Assumes nothing.
use Rattle.std.proofs.Common.{rules}
use Rattle.instance.proofs.OffLaws.{off_read}
use Rattle.instance.proofs.FigureLaws.{off_at_lem, off_most, off_none}
use Rattle.instance.proofs.file.File.off_cost.Goals as goal

pub returns-then-self : goal.returns-then-self
returns-then-self c = (search off_none, search rules)

pub bounds-self-q : goal.bounds-self-q
bounds-self-q c = search off_read

pub returns : goal.returns
returns c = (search off_at_lem, search off_most)
