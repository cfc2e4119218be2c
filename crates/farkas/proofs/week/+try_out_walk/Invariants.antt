-- `farkas::week::try_out` and `farkas::week::walk`, which call each other, meet their contracts: a node comes to what its two children come to, and the
-- units left fall.
-- Assumes nothing.
use Rattle.std.proofs.Common.{◌+◌, ◌*◌}
use Rattle.farkas.proofs.week.+try_out_walk.Given as goal

abbrev pub decreases-try_out : goal.decreases-try_out
decreases-try_out l = 2 * l.i + 1

abbrev pub decreases-walk : goal.decreases-walk
decreases-walk l = 2 * l.k
