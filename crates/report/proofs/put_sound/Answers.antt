-- `report::put_sound` meets its contract: its word, its cost, a line feed.
-- Assumes nothing.
use Rattle.report.proofs.LineLaws.{sound_put}
use Rattle.report.proofs.put_sound.Goals as goal

pub returns : goal.returns
returns c = search sound_put
