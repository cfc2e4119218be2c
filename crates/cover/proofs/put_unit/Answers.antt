-- `cover::put_unit` meets its contract: two sums with one term more, each in its place.
-- Assumes nothing.
use Rattle.std.proofs.Common.{rules}
use Rattle.cover.proofs.TableLaws.{room_fits, gain_fits, cuts_next}
use Rattle.cover.proofs.put_unit.Goals as goal

pub add-room-requires : goal.add-room-requires
add-room-requires c = search room_fits

pub overflow_add-gain-2 : goal.overflow_add-gain-2
overflow_add-gain-2 c = search (rules, gain_fits)

pub returns : goal.returns
returns c = search cuts_next
