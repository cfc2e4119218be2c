-- `commitment::least_score` meets its contract: the thrifty units and the least cover by the others have the least score.
-- Assumes nothing.
use Rattle.std.proofs.Common.{rules}
use Rattle.commitment.proofs.ScoreLaws.{thrifty_fits, score_least, score_plain, score_none}
use Rattle.commitment.proofs.least_score.Goals as goal

pub returns-then-least-ge-UNCOVERED : goal.returns-then-least-ge-UNCOVERED
returns-then-least-ge-UNCOVERED c = search score_none

pub returns-then-file : goal.returns-then-file
returns-then-file c = search score_plain

pub score-requires : goal.score-requires
score-requires c = (search rules, search thrifty_fits)

pub returns : goal.returns
returns c = search score_least
