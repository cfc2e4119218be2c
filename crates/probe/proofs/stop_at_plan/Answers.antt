-- `probe::stop_at_plan` meets its contract: a step is handed on, or stopped.
-- Assumes nothing.
use Rattle.probe.proofs.JudgedLaws.{stops_not, stops_so}
use Rattle.probe.proofs.stop_at_plan.Goals as goal

pub returns-then-not-first : goal.returns-then-not-first
returns-then-not-first c = search stops_not

pub returns-then-st-limit : goal.returns-then-st-limit
returns-then-st-limit c = search stops_so

pub returns : goal.returns
returns c = search stops_not
