-- `relaxation::start::price_added` meets its contract: a unit that is out adds nothing, another its price.
-- Assumes nothing.
use Rattle.relaxation.proofs.LeftLaws.{added_out, added_in}
use Rattle.relaxation.proofs.start.price_added.Goals as goal

pub returns-then-has : goal.returns-then-has
returns-then-has c = search added_out

pub returns : goal.returns
returns c = search added_in
