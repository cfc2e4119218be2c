-- `instance::output_part` meets its contract: the capacity of a unit in the run, 0 for another.
-- Assumes nothing.
use Rattle.std.proofs.Common.{rules}
use Rattle.sums.proofs.LoopLaws.{pick_in, pick_out}
use Rattle.instance.proofs.file.File.output_part.Goals as goal

pub returns-then-has : goal.returns-then-has
returns-then-has c = (search pick_in, search rules)

pub returns : goal.returns
returns c = (search pick_out, search rules)
