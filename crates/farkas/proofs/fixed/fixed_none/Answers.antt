-- `farkas::fixed::fixed_none` meets its contract: one table after the other.
-- Assumes nothing.
use Rattle.farkas.proofs.TestLaws.{none_yes}
use Rattle.farkas.proofs.fixed.fixed_none.Goals as goal

pub returns-then-table_none : goal.returns-then-table_none
returns-then-table_none c = search none_yes

pub returns-then-table_none-2 : goal.returns-then-table_none-2
returns-then-table_none-2 c = search none_yes
