-- `cover::guess_weight_if_cover` meets its contract: the guess is a cover, or stands for none.
-- Assumes nothing.
use Rattle.cover.proofs.TableLaws.{candidate_none, candidate_some}
use Rattle.cover.proofs.guess_weight_if_cover.Goals as goal

pub returns-then-given-need : goal.returns-then-given-need
returns-then-given-need c = search candidate_none

pub returns : goal.returns
returns c = search candidate_some
