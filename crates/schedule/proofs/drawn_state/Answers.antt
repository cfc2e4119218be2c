-- `schedule::drawn_state` meets its contract: byte q stands in week q / U at unit q % U.
-- Assumes nothing.
use Rattle.model.proofs.VerdictLaws.{place_week, place_unit}
use Rattle.schedule.proofs.DrawLaws.{byte_state}
use Rattle.schedule.proofs.drawn_state.Goals as goal

pub state-requires : goal.state-requires
state-requires c = (search place_week, search place_unit)

pub returns : goal.returns
returns c = search byte_state
