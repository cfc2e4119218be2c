-- `asks::ask_fault` meets its contract: the kind first, then a budget's value.
-- Assumes nothing.
use Rattle.asks.proofs.RefusalLaws.{ask_kind, ask_ceiling, ask_budget, ask_no_try}
use Rattle.asks.proofs.ask_fault.Goals as goal

pub returns-then-kind-part : goal.returns-then-kind-part
returns-then-kind-part c = search ask_kind

pub returns-then-part-ne1 : goal.returns-then-part-ne1
returns-then-part-ne1 c = search ask_ceiling

pub returns-then-value_of-ne0 : goal.returns-then-value_of-ne0
returns-then-value_of-ne0 c = search ask_budget

pub returns : goal.returns
returns c = search ask_no_try
