-- `commitment::thrifty_with` meets its contract, by cases: out, cheaper running than OFF, or not.
-- Assumes nothing.
use Rattle.commitment.proofs.ThriftyLaws.{thrifty_out, thrifty_cheap, thrifty_dear}
use Rattle.commitment.proofs.thrifty_with.Goals as goal

pub returns-then-has : goal.returns-then-has
returns-then-has c = search thrifty_out

pub returns-then-on-off : goal.returns-then-on-off
returns-then-on-off c = search thrifty_cheap

pub returns : goal.returns
returns c = search thrifty_dear
