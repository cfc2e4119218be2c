-- `rules::broken` meets its contract: the formulas in turn, up to the first that is broken.
-- Assumes nothing.
use Rattle.rules.proofs.ChainLaws.{chain}
use Rattle.rules.proofs.broken.Goals as goal

pub returns-then-not-keeps1 : goal.returns-then-not-keeps1
returns-then-not-keeps1 c = search chain

pub returns-then-not-keeps2 : goal.returns-then-not-keeps2
returns-then-not-keeps2 c = search chain

pub returns-then-not-keeps3 : goal.returns-then-not-keeps3
returns-then-not-keeps3 c = search chain

pub returns-then-not-keeps4 : goal.returns-then-not-keeps4
returns-then-not-keeps4 c = search chain

pub returns-then-not-keeps5 : goal.returns-then-not-keeps5
returns-then-not-keeps5 c = search chain

pub returns-then-not-keeps6 : goal.returns-then-not-keeps6
returns-then-not-keeps6 c = search chain

pub returns-then-not-keeps7 : goal.returns-then-not-keeps7
returns-then-not-keeps7 c = search chain

pub returns-then-not-keeps8 : goal.returns-then-not-keeps8
returns-then-not-keeps8 c = search chain

pub returns : goal.returns
returns c = search chain
