-- `schedule::state` meets its contract: the overhaul first, then the week's run, as the layout has them.
-- Assumes nothing.
use Rattle.schedule.proofs.DrawLaws.{state_maint, state_on, state_off}
use Rattle.schedule.proofs.state.Goals as goal

pub returns-then-overhauled : goal.returns-then-overhauled
returns-then-overhauled c = search state_maint

pub returns-then-has : goal.returns-then-has
returns-then-has c = search state_on

pub returns-else-has : goal.returns-else-has
returns-else-has c = search state_off
