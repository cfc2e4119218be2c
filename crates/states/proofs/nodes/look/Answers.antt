-- `states::nodes::look` meets its contract: each return by its reason.
-- Assumes nothing.
use Rattle.std.proofs.Common.{rules}
use Rattle.states.proofs.TableLaws.{room_under, seen_room}
use Rattle.states.proofs.nodes.look.Goals as goal

pub returns-then-sums-k : goal.returns-then-sums-k
returns-then-sums-k c = search seen_room

pub weighed-weighed-requires : goal.weighed-weighed-requires
weighed-weighed-requires c = (search rules, search rules, search room_under, search rules, search rules)
