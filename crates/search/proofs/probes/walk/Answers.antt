-- `search::probes::walk` meets its contract: the root settles it, or the units are placed from the first on.
-- Assumes nothing.
use Rattle.std.proofs.Common.{rules}
use Rattle.search.proofs.AskLaws.{walk_root, walk_fails, walk_places, walk_placed}
use Rattle.search.proofs.probes.walk.Goals as goal

pub root-v-requires : goal.root-v-requires
root-v-requires c = search walk_root

pub place-requires : goal.place-requires
place-requires c = search walk_places

pub returns-in-Err : goal.returns-in-Err
returns-in-Err c = record { answer = search walk_fails; recalls = search rules }

pub returns-in-Ok : goal.returns-in-Ok
returns-in-Ok c = record { answer = search walk_placed; recalls = search rules }
