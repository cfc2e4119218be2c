-- `cover::spared_part` meets its contract: each way is one case of the definition.
-- Assumes nothing.
use Rattle.cover.proofs.TableLaws.{spared_out, spared_in, spared_not}
use Rattle.cover.proofs.spared_part.Goals as goal

pub returns-then-has : goal.returns-then-has
returns-then-has c = search spared_out

pub returns-then-has-2 : goal.returns-then-has-2
returns-then-has-2 c = search spared_in

pub returns : goal.returns
returns c = search spared_not
