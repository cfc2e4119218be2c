-- `probe::from_root` meets its contract: the root settles it, or units are placed in any order.
-- Assumes nothing.
use Rattle.std.proofs.Common.{rules}
use Rattle.probe.proofs.RootLaws.{root_due, root_fails, root_places, root_placed}
use Rattle.probe.proofs.from_root.Goals as goal

pub root-v-requires : goal.root-v-requires
root-v-requires c = search root_due

pub place-requires : goal.place-requires
place-requires c = search root_places

pub returns-in-Err : goal.returns-in-Err
returns-in-Err c = record { answer = search root_fails; recalls = search rules }

pub returns-in-Ok : goal.returns-in-Ok
returns-in-Ok c = record { answer = search root_placed; recalls = search rules }
