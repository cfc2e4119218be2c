-- `report::put_rule` meets its contract: its word, its number, a line feed.
-- Assumes nothing.
use Rattle.report.proofs.LineLaws.{rule_put}
use Rattle.report.proofs.put_rule.Goals as goal

pub returns : goal.returns
returns c = search rule_put
